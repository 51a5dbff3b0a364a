-- Worked examples of the definitions.
use Rattle.std.proofs.Common.{◌≡◌, ◌+◌, refl, Some, None, [], ◌∷◌}
use Rattle.rv_tree.specs.Refusals.{insert_refusal, place_refusal}
use Rattle.rv_tree.specs.Shape.{fewest}
use Rattle.rv_tree.specs.Sums.{total}
use Rattle.rv_tree.specs.declared.error.TreeError.TheVariants.{Place, Full}

-- the place is tried before the room
insert_at_0_of_full : insert_refusal 0 16384 ≡ Some Place
insert_at_0_of_full = refl

insert_at_1_of_full : insert_refusal 1 16384 ≡ Some Full
insert_at_1_of_full = refl

insert_behind_full : insert_refusal 16386 16384 ≡ Some Place
insert_behind_full = refl

insert_last : insert_refusal 16384 16383 ≡ None
insert_last = refl

insert_behind_end : insert_refusal 4 2 ≡ Some Place
insert_behind_end = refl

delete_0 : place_refusal 0 3 ≡ Some Place
delete_0 = refl

delete_last : place_refusal 3 3 ≡ None
delete_last = refl

delete_behind_end : place_refusal 4 3 ≡ Some Place
delete_behind_end = refl

-- a path of 20 nodes takes 10,946 items, and one of 21 takes more than a tree has
fewest_20 : fewest 20 ≡ 10946
unfolding fewest
fewest_20 = refl

fewest_21 : fewest 21 ≡ 17711
unfolding fewest
fewest_21 = refl

-- joined in their order
total_of_three : total 0 (λ x y. x + y) (λ x. x + 1) (10 ∷ (20 ∷ (30 ∷ []))) ≡ 63
total_of_three = refl
