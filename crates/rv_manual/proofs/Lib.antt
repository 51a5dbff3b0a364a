mod FieldSteps
mod FormatFacts
