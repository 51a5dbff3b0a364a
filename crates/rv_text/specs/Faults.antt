-- The numbers by which faults are reported.
use Rattle.std.specs.Prelude.{ℕ}
use Rattle.rv_text.specs.declared.faults.FaultNumber.{FaultNumber}
use Rattle.rv_text.specs.declared.faults.FaultNumber.TheVariants.{BadByte, BadNumber, BadString, NoStatement, UnknownName, OperandCount, BadRegister, RegisterRange, BadOperand, TooDeep, NotConstant, Undefined, LaterEqu, FaultyEqu, Arithmetic, Range, Multiple, NoPartner, Duplicate, OddAddress, InBss}

-- the number of a fault, from 1 to 21
abbrev pub fault_number : FaultNumber → ℕ
fault_number BadByte = 1
fault_number BadNumber = 2
fault_number BadString = 3
fault_number NoStatement = 4
fault_number UnknownName = 5
fault_number OperandCount = 6
fault_number BadRegister = 7
fault_number RegisterRange = 8
fault_number BadOperand = 9
fault_number TooDeep = 10
fault_number NotConstant = 11
fault_number Undefined = 12
fault_number LaterEqu = 13
fault_number FaultyEqu = 14
fault_number Arithmetic = 15
fault_number Range = 16
fault_number Multiple = 17
fault_number NoPartner = 18
fault_number Duplicate = 19
fault_number OddAddress = 20
fault_number InBss = 21
