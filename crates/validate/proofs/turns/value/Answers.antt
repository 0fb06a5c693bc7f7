-- `validate::turns::value` meets its contract, by the first byte. Assumes nothing.
use Rattle.std.proofs.Common.{◌+◌}
use Rattle.std.proofs.lemmas.Result.{err_from_is_err_and}
use Rattle.encoding.specs.Reads.{Reads}
use Rattle.encoding.proofs.ReadsLaws.{reads_so}
use Rattle.json_text.specs.Machine.{in_string, closed}
use Rattle.scalars.specs.Scalars.{Scalar}
use Rattle.characters.specs.Strings.{LedBoth}
use Rattle.validate.proofs.Refusing.{read_to, read_dead}
use Rattle.validate.proofs.TurnLaws.{string_value, value_taken, value_refused}
use Rattle.validate.proofs.turns.value.Goals as goal
use Rattle.validate.proofs.turns.value.Goals.{After-map_err, in-34, in_default}

-- a string or another value that is no container
end : (c : After-map_err) → Reads (Scalar c.args.s.now c.args.at) c.match-s-at.end
end c =
    elim c.match-s-at.branch [
      | in-34 w ↦ rw w.end-is
          (reads_so {P = LedBoth c.args.s.now (c.args.at + 1) in_string closed} {Q = Scalar c.args.s.now c.args.at}
          (λ ok r. string_value c.requires w.in-34.is) _ w.string_end-end.ensures)
      | in_default w ↦ rw w.end-is w.scalar_end-end.ensures
    ]

pub returns-in_err-map_err : goal.returns-in_err-map_err
returns-in_err-map_err c =
    let p = err_from_is_err_and c.from_residual.result c.from_residual.ensures.1 in
    let dead = read_dead (Scalar c.args.s.now c.args.at) _ (end (goal.at.returns-in_err-map_err c).After-map_err) c.in_err-map_err.ensures.cases in
    rw (p.1, p.2, dead.1) (value_refused _ dead.2)

pub returns : goal.returns
returns c = value_taken _ (read_to (Scalar c.args.s.now c.args.at) _ (end (goal.at.returns c).After-map_err) c.in_ok-map_err.ensures.cases)
