-- `state::release` meets its contract. Assumes nothing.
use mathlib.Core.Path.{refl, sym, ◌∙◌}
use Rattle.state.proofs.Within.{few_live}
use Rattle.state.proofs.Releases.{release_refused, release_passed}
use Rattle.state.proofs.release.Goals as goal

pub is_live-requires : goal.is_live-requires
is_live-requires c = few_live c.args.st c.requires

pub returns-then-not-is_live : goal.returns-then-not-is_live
returns-then-not-is_live c = release_refused c.args.st c.requires _ (sym c.is_live.ensures ∙ c.if-not-is_live.true) _ refl refl

pub without-requires : goal.without-requires
without-requires c = few_live c.args.st c.requires

pub returns : goal.returns
returns c = release_passed c.args.st c.requires _ (sym c.is_live.ensures ∙ c.if-not-is_live.false) _ c.without.ensures
