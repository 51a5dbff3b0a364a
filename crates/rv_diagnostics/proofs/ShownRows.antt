-- Diagnostics that a window shows, written one after another.
use Rattle.std.proofs.Common.{◌≡◌, ℕ, suc, ◌+◌, ◌-◌, ◌<◌, ◌≤◌, Bool, true, false, List, [], ◌∷◌, ◌++◌, length, take, drop, map, if◌then◌else◌, ap, sym, ◌∙◌, arith}
use Rattle.std.specs.Prelude.{Option, Some, None}
use Rattle.std.specs.List.{flat_map}
use Rattle.std.proofs.lemmas.List.{append-nil, drop-map, length-map, take-map}
use Rattle.std.proofs.lemmas.List.Folds.{flat_map-map}
use Rattle.json.specs.Token.{Token}
use Rattle.rv_text.specs.declared.faults.Fault.{Fault}
use Rattle.rv_expr.specs.Value.{Environment}
use Rattle.rv_fix.specs.Values.{Entry, operand_values_of}
use Rattle.rv_list.specs.Faults.{faults_of, found}
use Rattle.rv_list.specs.FoundFaults.{all_found}
use Rattle.rv_list.specs.Joined.{joined}
use Rattle.rv_list.specs.JoinedLaws.{joined_more, joined_then}
use Rattle.rv_list.specs.Shown.{Shown, ShownLine}
use Rattle.rv_report.specs.Warnings.{Warning, warning_of}
use Rattle.rv_doc.specs.declared.encoding.Encoding.{Encoding}
use Rattle.rv_report.specs.Words.{Words}
use Rattle.rv_diagnostics.specs.Diagnostics.{fault_diagnostic, long_line, warning_diagnostic}
use Rattle.rv_doc.specs.declared.window.Window.{Window}
use Rattle.rv_diagnostics.specs.Published.{is_long, line_diagnostic, line_diagnostics, long_lines, optional, shown_in, warning_diagnostics}
use Rattle.rv_doc.specs.Windows.{passed, shows, windowed}
use Rattle.rv_diagnostics.proofs.WindowLaws.{passed_more, passed_none, windowed_both, windowed_nil, windowed_one, written_both}

-- No rows, and one row

pub shown_none : (w : Window) (old : List Token) → old ≡ old ++ shown_in w []
shown_none w old = sym (ap (λ (l : List (List Token)). old ++ flat_map (λ tokens. tokens) l) (windowed_nil {A = List Token} w) ∙ append-nil old)

one_by : (b : Bool) (w : Window) (x : List Token) → shows w ≡ b → shown_in w (x ∷ []) ≡ (if b then x else [])
one_by true w x is =
    ap (flat_map (λ tokens. tokens)) (windowed_one w x [] ∙ ap (λ b. (if b then x ∷ [] else []) ++ windowed (passed w 1) []) is ∙ ap (λ (l : List (List Token)). (x ∷ []) ++ l) (windowed_nil {A = List Token} (passed w 1)))
    ∙ append-nil x
one_by false w x is =
    ap (flat_map (λ tokens. tokens)) (windowed_one w x [] ∙ ap (λ b. (if b then x ∷ [] else []) ++ windowed (passed w 1) []) is ∙ windowed_nil {A = List Token} (passed w 1))

-- one row that is shown
pub one_shown : (w : Window) (x old new : List Token) (rows : List (List Token)) → rows ≡ x ∷ [] → true ≡ shows w → new ≡ old ++ x → new ≡ old ++ shown_in w rows
one_shown w x old new rows is test now =
    now ∙ ap (λ l. old ++ l) (sym (ap (shown_in w) is ∙ one_by true w x (sym test)))

-- one that is not
pub one_skipped : (w : Window) (x old : List Token) (rows : List (List Token)) → rows ≡ x ∷ [] → false ≡ shows w → old ≡ old ++ shown_in w rows
one_skipped w x old rows is test =
    sym (ap (λ l. old ++ l) (ap (shown_in w) is ∙ one_by false w x (sym test)) ∙ append-nil old)

pub none_shown : (w : Window) (old : List Token) (rows : List (List Token)) → rows ≡ [] → old ≡ old ++ shown_in w rows
none_shown w old rows is = shown_none w old ∙ ap (λ r. old ++ shown_in w r) (sym is)

pub one_passed : (w v : Window) (x : List Token) (rows : List (List Token)) → rows ≡ x ∷ [] → v ≡ passed w 1 → v ≡ passed w (length rows)
one_passed w v x rows is now = now ∙ ap (λ (r : List (List Token)). passed w (length r)) (sym is)

pub none_passed : (w : Window) (rows : List (List Token)) → rows ≡ [] → w ≡ passed w (length rows)
none_passed w rows is = sym (ap (λ (r : List (List Token)). passed w (length r)) is ∙ passed_none w)

-- Rows of lines

-- those of one line more
pub written_more : (rows : ℕ → List (List Token)) (w v : Window) (k : ℕ) (old now new : List Token) → now ≡ old ++ shown_in w (joined rows k) → v ≡ passed w (length (joined rows k)) → new ≡ now ++ shown_in v (rows k) → new ≡ old ++ shown_in w (joined rows (k + 1))
written_more rows w v k old now new said rest next =
    next
    ∙ written_both (λ tokens. tokens) w v (joined rows k) (rows k) old now said rest
    ∙ ap (λ l. old ++ shown_in w l) (sym (joined_more rows k))

pub left_more : (rows : ℕ → List (List Token)) (w v u : Window) (k : ℕ) → v ≡ passed w (length (joined rows k)) → u ≡ passed v (length (rows k)) → u ≡ passed w (length (joined rows (k + 1)))
left_more rows w v u k rest next =
    next ∙ passed_more w v (joined rows k) (rows k) rest ∙ ap (λ (l : List (List Token)). passed w (length l)) (sym (joined_more rows k))

-- where nothing is left of a window, no later row is shown
pub shown_all : (rows : ℕ → List (List Token)) (w v : Window) (k n : ℕ) → k ≤ n → v ≡ passed w (length (joined rows k)) → v.most ≡ 0 → shown_in w (joined rows k) ≡ shown_in w (joined rows n)
shown_all rows w v k n within rest none =
    let more = joined_then rows k (n - k) in
    let count : k + (n - k) ≡ n = omega (arith, within) in
    let nothing : windowed (passed w (length (joined rows k))) more.later ≡ [] =
    ap (λ (u : Window). windowed u more.later) (sym rest) ∙ ap (λ i. take i (drop v.skipped more.later)) none in
    sym (ap (λ i. shown_in w (joined rows i)) (sym count)
    ∙ ap (shown_in w) more.whole
    ∙ ap (flat_map (λ tokens. tokens)) (windowed_both w (joined rows k) more.later ∙ ap (λ l. windowed w (joined rows k) ++ l) nothing ∙ append-nil (windowed w (joined rows k))))

-- Lines that are too long

long_both : (encoding : Encoding) (k : ℕ) (line : List ℕ) (later : List (List ℕ)) → long_lines encoding k (line ∷ []) ++ long_lines encoding (k + 1) later ≡ long_lines encoding k (line ∷ later)
long_both encoding k line later = ap (λ l. l ++ long_lines encoding (k + 1) later) (append-nil (if is_long line then long_line encoding k line ∷ [] else []))

-- one line more
pub long_written : (encoding : Encoding) (limit k : ℕ) (w v : Window) (line : List ℕ) (later lines : List (List ℕ)) (old new all : List Token) → k < limit → lines ≡ line ∷ later → new ≡ old ++ shown_in w (long_lines encoding k (line ∷ [])) → v ≡ passed w (length (long_lines encoding k (line ∷ []))) → old ++ shown_in w (long_lines encoding k (take (limit - k) lines)) ≡ all → new ++ shown_in v (long_lines encoding (k + 1) (take (limit - (k + 1)) later)) ≡ all
long_written encoding limit k w v line later lines old new all lt is now rest was =
    let n = limit - (k + 1) in
    let more : limit - k ≡ suc n = omega (arith, lt) in
    written_both (λ tokens. tokens) w v (long_lines encoding k (line ∷ [])) (long_lines encoding (k + 1) (take n later)) old new now rest
    ∙ ap (λ l. old ++ shown_in w l) (long_both encoding k line (take n later))
    ∙ sym (ap (λ i. old ++ shown_in w (long_lines encoding k (take i lines))) more ∙ ap (λ l. old ++ shown_in w (long_lines encoding k (take (suc n) l))) is)
    ∙ was

pub long_end : (encoding : Encoding) (n k : ℕ) (w : Window) (lines : List (List ℕ)) (old all : List Token) → n ≡ 0 → old ++ shown_in w (long_lines encoding k (take n lines)) ≡ all → old ≡ all
long_end encoding n k w lines old all none was =
    shown_none w old ∙ sym (ap (λ i. old ++ shown_in w (long_lines encoding k (take i lines))) none) ∙ was

-- Warnings

pub warning_here : (encoding : Encoding) (shown : Shown) (number : ℕ) (line : ShownLine) (warning : Warning) → Some warning ≡ warning_of shown line.stmt.body → warning_diagnostics encoding shown number line ≡ warning_diagnostic encoding number line.text warning ∷ []
unfolding warning_diagnostics
warning_here encoding shown number line warning is = ap (λ w. map (warning_diagnostic encoding number line.text) (optional w)) (sym is)

pub no_warning_here : (encoding : Encoding) (shown : Shown) (number : ℕ) (line : ShownLine) → None ≡ warning_of shown line.stmt.body → warning_diagnostics encoding shown number line ≡ []
unfolding warning_diagnostics
no_warning_here encoding shown number line is = ap (λ w. map (warning_diagnostic encoding number line.text) (optional w)) (sym is)

-- Faults

mapped : {A : Type 0} (f : A → List Token) (w : Window) (xs : List A) → flat_map f (windowed w xs) ≡ shown_in w (map f xs)
mapped f w xs =
    sym (ap (λ l. flat_map (λ tokens. tokens) (take w.most l)) (drop-map f w.skipped xs)
    ∙ ap (flat_map (λ tokens. tokens)) (take-map f w.most (drop w.skipped xs))
    ∙ flat_map-map (λ tokens. tokens) f (windowed w xs))

-- the diagnostics of faults of a line
pub line_written : (encoding : Encoding) (uri : List ℕ) (given : ℕ → ℕ → Environment) (shown : Shown) (words : Words) (number : ℕ) (line : ShownLine) (names : ℕ → Environment) (bytes : List ℕ) (values : List Entry) (faults : List Fault) → names ≡ given number → bytes ≡ line.text → values ≡ operand_values_of (names line.place.address) line.place.address line.stmt.body → flat_map (fault_diagnostic encoding uri (names line.place.address) shown (record { number = number; text = bytes; stmt = line.stmt; address = line.place.address; values = values; words = words })) faults ≡ flat_map (line_diagnostic encoding uri given shown words number line) faults
unfolding line_diagnostic
line_written encoding uri given shown words number line names bytes values faults named same valued =
    ap (λ v. flat_map (fault_diagnostic encoding uri (names line.place.address) shown (record { number = number; text = bytes; stmt = line.stmt; address = line.place.address; values = v; words = words })) faults) valued
    ∙ ap (λ (n : ℕ → Environment). flat_map (fault_diagnostic encoding uri (n line.place.address) shown (record { number = number; text = bytes; stmt = line.stmt; address = line.place.address; values = operand_values_of (n line.place.address) line.place.address line.stmt.body; words = words })) faults) named
    ∙ ap (λ b. flat_map (fault_diagnostic encoding uri (given number line.place.address) shown (record { number = number; text = b; stmt = line.stmt; address = line.place.address; values = operand_values_of (given number line.place.address) line.place.address line.stmt.body; words = words })) faults) same

found_in : (w : Window) (fs : List Fault) → found (windowed w (map (λ f. Some f) fs)) ≡ windowed w fs
found_in w fs =
    ap found (ap (take w.most) (drop-map (λ f. Some f) w.skipped fs) ∙ take-map (λ f. Some f) w.most (drop w.skipped fs))
    ∙ all_found (windowed w fs)

-- those that a window shows
pub line_shown : (encoding : Encoding) (uri : List ℕ) (given : ℕ → ℕ → Environment) (shown : Shown) (words : Words) (number : ℕ) (line : ShownLine) (w : Window) (faults rows : List (Option Fault)) → faults ≡ map (λ f. Some f) (faults_of shown number line) → rows ≡ windowed w faults → flat_map (line_diagnostic encoding uri given shown words number line) (found rows) ≡ shown_in w (line_diagnostics encoding uri given shown words number line)
unfolding line_diagnostics
line_shown encoding uri given shown words number line w faults rows faulty passed_rows =
    let written = line_diagnostic encoding uri given shown words number line in
    ap (λ (f : List (Option Fault)). flat_map written (found f)) passed_rows
    ∙ ap (λ (f : List (Option Fault)). flat_map written (found (windowed w f))) faulty
    ∙ ap (flat_map written) (found_in w (faults_of shown number line))
    ∙ mapped written w (faults_of shown number line)

-- there are as many as it has faults
pub diagnostic_count : (encoding : Encoding) (uri : List ℕ) (given : ℕ → ℕ → Environment) (shown : Shown) (words : Words) (number : ℕ) (line : ShownLine) → length (line_diagnostics encoding uri given shown words number line) ≡ length (faults_of shown number line)
unfolding line_diagnostics
diagnostic_count encoding uri given shown words number line =
    length-map (faults_of shown number line) (line_diagnostic encoding uri given shown words number line)

pub found_count : (shown : Shown) (number : ℕ) (line : ShownLine) (faults : List (Option Fault)) → faults ≡ map (λ f. Some f) (faults_of shown number line) → length faults ≡ length (faults_of shown number line)
found_count shown number line faults is = ap length is ∙ length-map (faults_of shown number line) (λ f. Some f)
