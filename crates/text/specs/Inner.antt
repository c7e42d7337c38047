-- Words of the contracts of inner functions. They are no part of what is promised: what the program writes is said in the words of `specs/Lines`. Assumes nothing.
use Rattle.std.specs.Prelude.{◌≡◌, List, ℕ, ◌+◌, ◌≤◌, length}
use Rattle.places.specs.Put.{put_at}
use Rattle.text.specs.declared.Page.{Page}

-- a page has room for x
abbrev pub HasRoom : List ℕ → Page → Type 0
HasRoom x page = page.at + length x ≤ length page.out.now

-- x is put on a page from its place on, and every other byte of its buffer is left
pub record Adds (x : List ℕ) (before after : Page) : Type 0 where
  pub next : after.at ≡ before.at + length x
  pub holds : after.out.now ≡ put_at before.at x before.out.now
  pub same : after.out.ghost_name ≡ before.out.ghost_name
