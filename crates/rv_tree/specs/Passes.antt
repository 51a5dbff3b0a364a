-- What a pass over a list of items leaves.
use Rattle.std.specs.Prelude.{List, [], ◌∷◌}

-- From the state p, and behind new items of the sum b, a pass makes the list ys of the list xs, item by item, and ends in
-- the state q. `gives p b x y q`: handed x behind new items of the sum b it leaves y, and is then in the state q.
pub data Runs {P S T : Type 0} (gives : P → S → T → T → P → Type 0) (op : S → S → S) (sum_of : T → S) : P → S → List T → List T → P → Type 0 where
  none : {p : P} {b : S} → Runs gives op sum_of p b [] [] p
  one_more : {p m q : P} {b : S} {x y : T} {xs ys : List T} → gives p b x y m → Runs gives op sum_of m (op b (sum_of y)) xs ys q → Runs gives op sum_of p b (x ∷ xs) (y ∷ ys) q

-- A pass was handed the items of a prefix of the list xs, and is then in the state q: no item (`here`), an item that it
-- had no memory for (`refused`), or an item that it gave something for and then more (`later`).
pub data Stops {P S T : Type 0} (gives : P → S → T → T → P → Type 0) (refuses : P → S → T → P → Type 0) (op : S → S → S) (sum_of : T → S) : P → S → List T → P → Type 0 where
  here : {p : P} {b : S} {xs : List T} → Stops gives refuses op sum_of p b xs p
  refused : {p q : P} {b : S} {x : T} {xs : List T} → refuses p b x q → Stops gives refuses op sum_of p b (x ∷ xs) q
  later : {p m q : P} {b : S} {x y : T} {xs : List T} → gives p b x y m → Stops gives refuses op sum_of m (op b (sum_of y)) xs q → Stops gives refuses op sum_of p b (x ∷ xs) q
