-- The part of a list to which a search comes.
use Rattle.std.specs.Prelude.{◌≡◌, ℕ, ◌≤◌, ◌<◌, Bool, true, List, length, Some, slice_get}

-- After the first `before` items of a list comes a part that is to be looked through, from the first n items on up to the first `end`: each item
-- before it passes the test. There are n items if there is no such part.
pub record IsNextPart {T : Type 0} (test : T → Bool) (xs : List T) (before n end : ℕ) : Type 0 where
  pub from : before ≤ n
  pub order : n ≤ end
  pub within : end ≤ length xs
  pub some : n < length xs → n < end
  pub passed : (i : ℕ) (x : T) → before ≤ i → i < n → slice_get xs i ≡ Some x → test x ≡ true
