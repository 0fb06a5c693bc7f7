-- `swar::run_tail` meets its contract: of what is left, as many bytes are counted as are of the kind one after another. Assumes nothing.
use Rattle.std.proofs.Common.{◌≡◌, ◌-◌, length, drop, ◌∙◌, arith, rules, length-drop}
use borrow.Author.Tests.{tests}
use Rattle.std.specs.List.{prefix_len}
use Rattle.std.proofs.lemmas.Iterator.{YieldsList-from_slice}
use Rattle.std.proofs.lemmas.Iterator.Search.{YieldsList-from_take_while}
use Rattle.std.proofs.lemmas.Iterator.Consumers.{count_from_yields_List}
use Rattle.std.proofs.lemmas.List.{take_all}
use Rattle.std.proofs.lemmas.List.Folds.{length-prefix_len}
use Rattle.swar.specs.Passing.{run_prefix}
use Rattle.swar.proofs.run_tail.Goals as goal

pub returns : goal.returns
returns g c =
    let kind = g.K.Kind.kind in
    let s = c.args.s.now in
    let rest = drop c.args.at s in
    let whole = take_all (length s - c.args.at) rest (omega (arith, length-drop c.args.at s)) in
    let many : c.count.result ≡ prefix_len kind rest =
    count_from_yields_List c.take_while.result _ c.count.ensures.ran (YieldsList-from_take_while _ kind (YieldsList-from_slice rest cc) c.take_while.ensures.closure c.take_while.ensures.done (λ x b q k. search (rules, tests))) ∙ length-prefix_len kind rest in
    rw many (run_prefix c.requires)
