-- `network_file::links_length` meets its contract. Assumes nothing.
use mathlib.Core.Path.{◌≡◌, ◌∙◌}
use borrow.Author.Rules.{rules}
use native.Mathlib.Omega.{arith}
use lib.ListN.{length}
use Rattle.std.specs.List.{sum_by}
use Rattle.network_file.specs.Writing.{link_bytes}
use Rattle.network_file.proofs.Longest.{links_sum, links_bound}
use Rattle.network_file.proofs.links_length.Goals as goal

pub returns : goal.returns
returns c =
    let sum : c.sum.result ≡ sum_by (λ l. length (link_bytes l)) c.args.links.now = search rules in
    (sum ∙ links_sum _, omega (arith, sum, links_sum c.args.links.now, links_bound c.args.links.now, c.requires))
