-- Bytes put into a lent buffer. Assumes nothing.
use Rattle.std.specs.Prelude.{List, ◌++◌, ℕ, ◌+◌, length, take, drop}

-- a buffer with x in the place of as many bytes from place a on, and every other byte as it was
unfoldable pub put_at : ℕ → List ℕ → List ℕ → List ℕ
put_at a x d = take a d ++ (x ++ drop (a + length x) d)
