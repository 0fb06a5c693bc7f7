-- `validate::turns::name` meets its contract: no string stands there, or a wrong one, or a name with or without its colon. Assumes nothing.
use Rattle.std.proofs.Common.{true, ◌+◌}
use Rattle.std.proofs.lemmas.Result.{err_from_is_err_and}
use Rattle.json_text.specs.Led.{Led}
use Rattle.json_text.specs.Machine.{in_string, closed, colon, value_due}
use Rattle.characters.specs.Strings.{LedBoth}
use Rattle.validate.proofs.Refusing.{read_to, read_dead}
use Rattle.validate.proofs.TurnLaws.{name_missing, name_wrong, colon_wrong, name_taken}
use Rattle.validate.proofs.turns.name.Goals as goal
use Rattle.validate.proofs.turns.name.Goals.{In_ok-end}

-- the string up to its end
string : (c : In_ok-end) → LedBoth c.args.s.now (c.args.at + 1) in_string closed true c.in_ok-end.end
string c = read_to (LedBoth c.args.s.now (c.args.at + 1) in_string closed) _ c.string_end.ensures c.in_ok-end.ensures.cases

pub returns-then-s-at-ne34 : goal.returns-then-s-at-ne34
returns-then-s-at-ne34 c = rw c.wrong.ensures (name_missing c.requires c.if-s-at-ne34.true)

pub returns-in_err-end : goal.returns-in_err-end
returns-in_err-end c =
    let p = err_from_is_err_and c.from_residual.result c.from_residual.ensures.1 in
    let dead = read_dead (LedBoth c.args.s.now (c.args.at + 1) in_string closed) _ c.string_end.ensures c.in_err-end.ensures.cases in
    rw (p.1, p.2, dead.1) (name_wrong c.requires c.if-s-at-ne34.false dead.2)

pub colon_end-requires : goal.colon_end-requires
colon_end-requires c = (string (goal.at.colon_end-requires c).In_ok-end true).within

pub returns-in_err-map_err : goal.returns-in_err-map_err
returns-in_err-map_err c =
    let p = err_from_is_err_and c.from_residual-in_err-map_err.result c.from_residual-in_err-map_err.ensures.1 in
    let dead = read_dead (Led c.args.s.now c.in_ok-end.end colon value_due) _ c.colon_end.ensures c.in_err-map_err.ensures.cases in
    rw (p.1, p.2, dead.1) (colon_wrong c.requires c.if-s-at-ne34.false (string (goal.at.returns-in_err-map_err c).In_ok-end) dead.2)

pub returns : goal.returns
returns c =
    name_taken c.requires c.if-s-at-ne34.false (string (goal.at.returns c).In_ok-end)
    (read_to (Led c.args.s.now c.in_ok-end.end colon value_due) _ c.colon_end.ensures c.in_ok-map_err.ensures.cases)
