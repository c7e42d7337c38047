-- `text::Page::put_bytes` meets its contract. Assumes nothing.
use mathlib.Core.Path.{refl}
use borrow.Author.Rules.{rules}
use Rattle.text.proofs.Chains.{put_slice}
use Rattle.text.proofs.Page.put_bytes.Goals as goal

pub returns : goal.returns
returns c = record { next = refl; holds = put_slice _ _ _ _ (search rules); same = refl }
