-- `frames::main` lends as many bytes of the file as were read, or none. Assumes nothing.
use mathlib.Core.Path.{◌≡◌, refl, subst, sym}
use native.Mathlib.Omega.{arith}
use Prim.Native.Nat.{ℕ}
use Rattle.std.specs.Prelude.{List, Result, Ok, Err, IfOk}
use Rattle.std.specs.Result.{result_unwrap_or}
use Rattle.streams.specs.Counts.{IsPrefixLen}
use Rattle.frames.proofs.main.Goals as goal

file_lent : {E : Type 0} (r : Result ℕ E) (file : List ℕ) → IfOk r (λ n. IsPrefixLen n file) → (n : ℕ) → n ≡ result_unwrap_or r 0 → IsPrefixLen n file
file_lent (Ok m) file read n e = subst (λ (k : ℕ). IsPrefixLen k file) (sym e) read
file_lent (Err x) file read n e = subst (λ (k : ℕ). IsPrefixLen k file) (sym e) (omega arith, refl)

pub slice_bounds-file-end : goal.slice_bounds-file-end
slice_bounds-file-end c = (file_lent _ _ c.read_file.ensures _ c.unwrap_or-n.ensures).0

pub slice_bounds-run-end : goal.slice_bounds-run-end
slice_bounds-run-end c = (file_lent _ _ c.read_file.ensures _ c.unwrap_or-n.ensures).1
