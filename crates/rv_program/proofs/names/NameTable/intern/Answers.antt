use Rattle.std.proofs.Common.{◌≡◌, ℕ, true, ◌∙◌, ap, sym, refl, ◌++◌, ◌∷◌, [], None, Some, bytes_eq, map, Vec, Global}
use Rattle.std.proofs.lemmas.List.{map-append}
use Rattle.std.proofs.lemmas.Slice.Eq.{bytes_eq-Decides}
use Rattle.rv_program.specs.internal.NameSets.{bucket_of}
use Rattle.rv_program.specs.internal.Rows.{number_of}
use Rattle.rv_program.specs.lemmas.NameRows.{position-map, position-inserted, grows-inserted, names-inserted}
use Rattle.rv_program.proofs.names.NameTable.intern.Goals as goal

pub returns-clause-number : goal.returns-clause-number
returns-clause-number c =
    let owned = c.in_ok-owned.owned in
    let itself : bytes_eq owned.items owned.items ≡ true = (bytes_eq-Decides owned.items owned.items).1 refl in
    ap (number_of (map {A = Vec ℕ Global} (λ n. n.items) c.insert_full.new.self.keys)) (sym c.in_ok-owned.ensures.items)
    ∙ position-map {A = Vec ℕ Global} (bytes_eq owned.items) (λ n. n.items) c.insert_full.new.self.keys
    ∙ rw c.in_ok-number.ensures.keys (position-inserted {A = Vec ℕ Global} (λ n. bytes_eq owned.items n.items) c.self.inside.names.keys owned itself)
    ∙ ap Some (sym c.in_ok-number.ensures.index)

pub returns-clause-grows : goal.returns-clause-grows
returns-clause-grows c =
    let grows = grows-inserted {A = Vec ℕ Global} (λ n. n.items) _ c.self.inside.names.keys c.in_ok-owned.owned in
    (grows.0, ap (map {A = Vec ℕ Global} (λ n. n.items)) c.in_ok-number.ensures.keys ∙ grows.1 ∙ ap (λ names. names ++ grows.0) c.self.view_is)

pub returns-clause-last : goal.returns-clause-last
returns-clause-last c = λ none.
    let f = λ (n : Vec ℕ Global). n.items in
    let name = c.args.name.now in
    let keys = c.self.inside.names.keys in
    let unknown : number_of (map f keys) name ≡ None = ap (λ names. number_of names name) c.self.view_is ∙ none in
    ap (map f) c.in_ok-number.ensures.keys
    ∙ names-inserted f name keys c.in_ok-owned.owned c.in_ok-owned.ensures.items unknown
    ∙ ap (λ names. names ++ name ∷ []) c.self.view_is

pub invariant_of-self-2 : goal.invariant_of-self-2
invariant_of-self-2 c =
    let f = λ (n : Vec ℕ Global). n.items in
    let name = c.args.name.now in
    let keys = c.self.inside.names.keys in
    let owned = c.in_ok-owned.owned in
    let unknown : number_of (map f keys) name ≡ None = ap (λ names. number_of names name) c.self.view_is ∙ sym c.number.ensures.number ∙ c.in_default.is in
    let names : map f c.insert_full.new.self.keys ≡ map f keys ++ name ∷ [] =
    ap (map f) c.in_ok-number.ensures.keys ∙ names-inserted f name keys owned c.in_ok-owned.ensures.items unknown in
    c.push_reserved.ensures.items
    ∙ (λ i. (c.in_ok-reserve.ensures.items ∙ c.self.invariant) i ++ c.bucket_of.ensures.bucket i ∷ [])
    ∙ sym (map-append bucket_of (map f keys) (name ∷ []))
    ∙ ap (map bucket_of) (sym names)
