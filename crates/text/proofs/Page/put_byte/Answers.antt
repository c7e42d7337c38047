-- `text::Page::put_byte` meets its contract. Assumes nothing.
use mathlib.Core.Path.{refl}
use native.Mathlib.Omega.{arith}
use Rattle.places.proofs.Puts.{put_set}
use Rattle.text.proofs.Page.put_byte.Goals as goal

pub returns : goal.returns
returns c = record { next = refl; holds = put_set _ _ _ (omega (arith, c.requires)); same = refl }
