-- Where shapes take the same room, all lines lie where they lay.
use Rattle.std.proofs.Common.{◌≡◌, ℕ, zero, suc, ◌+◌, ◌-◌, ◌==◌, List, [], ◌∷◌, ◌++◌, map, set, take, get_or, if◌then◌else◌, ap, sym, ◌∙◌, refl}
use Rattle.std.specs.Prelude.{insert}
use Rattle.std.proofs.lemmas.List.{map-append, take-map}
use Rattle.rv_stmt.specs.declared.section.Sect.{Sect}
use Rattle.rv_stmt.specs.declared.section.Sect.TheVariants.{Text}
use Rattle.rv_layout.specs.declared.measured.Measured.{Measured}
use Rattle.rv_layout.specs.declared.measured.Measured.TheVariants.{Nothing, Faulty}
use Rattle.rv_layout.specs.Places.{section_after, offset_after, section_through, offset_through, section_of, offset_of, section_end_of, base_from, size_at, line_size_of, address_of}
use Rattle.rv_layout.specs.Sections.{section_number}
use Rattle.rv_store.specs.internal.Alike.{room_of}
use Rattle.rv_store.specs.internal.Ends.{by_section, ends_of, place_by_shapes}
use Rattle.rv_program.specs.Program.{for_lines}

pub map-for_lines : {A B : Type 0} (f : A → B) (g : ℕ → A) (n : ℕ) → map f (for_lines g n) ≡ for_lines (λ i. f (g i)) n
map-for_lines f g zero = refl
map-for_lines f g (suc n) = map-append f (for_lines g n) (g (suc n) ∷ []) ∙ ap (λ ys. ys ++ f (g (suc n)) ∷ []) (map-for_lines f g n)

-- One line

section_after-room : (s : Sect) (m : Measured) → section_after s (room_of m) ≡ section_after s m
section_after-room s (Faulty f) = refl
section_after-room s m = refl

offset_after-room : (x : ℕ) (m : Measured) → offset_after x (room_of m) ≡ offset_after x m
offset_after-room x (Faulty f) = refl
offset_after-room x m = refl

size_at-room : (x : ℕ) (m : Measured) → size_at x (room_of m) ≡ size_at x m
size_at-room x (Faulty f) = refl
size_at-room x m = refl

-- Some lines

section_through-rooms : (s : Sect) (ms : List Measured) → section_through s (map room_of ms) ≡ section_through s ms
section_through-rooms s [] = refl
section_through-rooms s (m ∷ ms) =
    section_through-rooms (section_after s (room_of m)) ms ∙ ap (λ t. section_through t ms) (section_after-room s m)

offset_through-rooms : (t : ℕ) (s : Sect) (x : ℕ) (ms : List Measured) → offset_through t s x (map room_of ms) ≡ offset_through t s x ms
offset_through-rooms t s x [] = refl
offset_through-rooms t s x (m ∷ ms) =
    offset_through-rooms t (section_after s (room_of m)) (if section_number s == t then offset_after x (room_of m) else x) ms
    ∙ (λ j. offset_through t (section_after-room s m j) (if section_number s == t then offset_after-room x m j else x) ms)

-- A text

section-rooms : (ms : List Measured) (i : ℕ) → section_of (map room_of ms) i ≡ section_of ms i
section-rooms ms i = ap (section_through Text) (take-map room_of (i - 1) ms) ∙ section_through-rooms Text (take (i - 1) ms)

offset-rooms : (ms : List Measured) (i : ℕ) → offset_of (map room_of ms) i ≡ offset_of ms i
offset-rooms ms i =
    (λ j. offset_through (section_number (section-rooms ms i j)) Text 0 (take-map room_of (i - 1) ms j))
    ∙ offset_through-rooms (section_number (section_of ms i)) Text 0 (take (i - 1) ms)

end-rooms : (ms : List Measured) → section_end_of (map room_of ms) ≡ section_end_of ms
end-rooms ms = λ j t. offset_through-rooms t Text 0 ms j

ends-rooms : (ms : List Measured) → ends_of (map room_of ms) ≡ ends_of ms
ends-rooms ms = λ j. record { section = section_through-rooms Text ms j; offsets = by_section (end-rooms ms j) }

address-rooms : (base : ℕ) (ms : List Measured) (i : ℕ) → address_of base (map room_of ms) i ≡ address_of base ms i
address-rooms base ms i = λ j. base_from base (end-rooms ms j) (section_number (section-rooms ms i j)) + offset-rooms ms i j

room_at : (ms : List Measured) (i : ℕ) → get_or (map room_of ms) i Nothing ≡ room_of (get_or ms i Nothing)
room_at [] i = refl
room_at (m ∷ ms) zero = refl
room_at (m ∷ ms) (suc i) = room_at ms i

size-rooms : (ms : List Measured) (i : ℕ) → line_size_of (map room_of ms) i ≡ line_size_of ms i
size-rooms ms i =
    (λ j. size_at (offset-rooms ms i j) (room_at ms (i - 1) j))
    ∙ size_at-room (offset_of ms i) (get_or ms (i - 1) Nothing)

place-rooms : (base : ℕ) (ms : List Measured) (i : ℕ) → place_by_shapes base (map room_of ms) i ≡ place_by_shapes base ms i
place-rooms base ms i = λ j. record { section = section-rooms ms i j; address = address-rooms base ms i j; size = size-rooms ms i j }

-- Two texts

module _ (xs ys : List Measured) (same : map room_of xs ≡ map room_of ys) where
  pub places-same : (base i : ℕ) → place_by_shapes base xs i ≡ place_by_shapes base ys i
  places-same base i = sym (place-rooms base xs i) ∙ ap (λ ms. place_by_shapes base ms i) same ∙ place-rooms base ys i

  pub ends-same : ends_of xs ≡ ends_of ys
  ends-same = sym (ends-rooms xs) ∙ ap ends_of same ∙ ends-rooms ys

-- one shape in the place of another
pub rooms-set : (ms : List Measured) (p : ℕ) (m : Measured) → room_of (get_or ms p Nothing) ≡ room_of m → map room_of (set ms p m) ≡ map room_of ms
rooms-set [] p m same = refl
rooms-set (x ∷ xs) zero m same = λ j. sym same j ∷ map room_of xs
rooms-set (x ∷ xs) (suc p) m same = ap (λ ys. room_of x ∷ ys) (rooms-set xs p m same)

-- either of two put in
pub rooms-insert : (ms : List Measured) (p : ℕ) (m n : Measured) → room_of m ≡ room_of n → map room_of (insert ms p m) ≡ map room_of (insert ms p n)
rooms-insert ms zero m n same = λ j. same j ∷ map room_of ms
rooms-insert [] (suc p) m n same = λ j. same j ∷ []
rooms-insert (x ∷ xs) (suc p) m n same = ap (λ ys. room_of x ∷ ys) (rooms-insert xs p m n same)
