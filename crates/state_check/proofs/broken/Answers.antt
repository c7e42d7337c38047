-- `state_check::broken` meets its contract. Assumes nothing.
use mathlib.Core.Path.{sym, ◌∙◌}
use Rattle.std.proofs.Common.{rules, arith}
use Rattle.std.proofs.lemmas.Grind.{common_steps}
use Rattle.network.specs.Network.{topology_of}
use Rattle.ledger.specs.Sound.{good_network, few_sessions, sound, intact}
use Rattle.table.proofs.Live.{in_length}
use Rattle.state.proofs.Within.{table_within}
use Rattle.state_check.proofs.Sessions.{check_passes, sessions_told}
use Rattle.state_check.proofs.broken.Goals as goal

pub returns-then-not-good_sessions : goal.returns-then-not-good_sessions
unfolding intact sound good_network few_sessions
returns-then-not-good_sessions c = let told = sessions_told (topology_of c.args.st.network) c.args.st.table.live c.args.st.table.places (search rules) c.good_sessions.result c.good_sessions.ensures in
    grind (arith, common_steps, check_passes, in_length, told)

pub frame_twice-requires : goal.frame_twice-requires
frame_twice-requires c = let told = sessions_told (topology_of c.args.st.network) c.args.st.table.live c.args.st.table.places (search rules) c.good_sessions.result c.good_sessions.ensures in
    table_within _ c.args.st.table (sym told ∙ c.if-not-good_sessions.false) (sym c.check_network.ensures ∙ check_passes _ _ c.is_err.ensures.value c.if-is_err.false) c.if-table-gt96.false

pub returns : goal.returns
unfolding intact sound good_network few_sessions
returns c = let told = sessions_told (topology_of c.args.st.network) c.args.st.table.live c.args.st.table.places (search rules) c.good_sessions.result c.good_sessions.ensures in
    grind (arith, common_steps, check_passes, in_length, told)
