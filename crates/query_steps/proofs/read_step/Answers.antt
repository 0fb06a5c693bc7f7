-- `query_steps::read_step` meets its contract: behind blanks `[`, `.` and `..` begin a step, whose rest the parts read;
-- any other byte is dead, and so are blanks without a step. Assumes nothing.
use Rattle.std.proofs.Common.{◌≡◌, ◌+◌, get_or, rules}
use Rattle.query.specs.Grammar.{plain}
use Rattle.query_steps.proofs.Parts.{step_taken, step_refused, bracket_led, plain_led, deep_led, step_cut, step_other}
use Rattle.query_steps.proofs.read_step.Goals as goal
use Rattle.query_steps.proofs.read_step.Goals.{in-Some-eq91+in_ok-read_bracket-in-Some-eq91, in-Some-eq46+in-Some-eq46-get+in_ok-read_deep-in-Some-eq46-get}
use Rattle.query_steps.proofs.read_step.Goals.{in-Some-eq46+in_default-get+in_ok-read_short-in_default-get}
use Rattle.query_steps.proofs.read_step.Goals.{in_default-get-via-in-Some+in_default, in_default-get-via-in_default}

pub returns-in_err-read_bracket-in-Some-eq91 : goal.returns-in_err-read_bracket-in-Some-eq91
returns-in_err-read_bracket-in-Some-eq91 c =
    search (rules, step_refused (bracket_led c.requires c.skip_blanks-place.ensures (search rules) (search rules)))

pub returns-in_err-read_deep-in-Some-eq46-get : goal.returns-in_err-read_deep-in-Some-eq46-get
returns-in_err-read_deep-in-Some-eq46-get c =
    search (
      rules,
      step_refused (deep_led c.requires c.skip_blanks-place.ensures (search rules) (search rules) (search rules) (search rules)),
    )

pub returns-in_err-read_short-in_default-get : goal.returns-in_err-read_short-in_default-get
returns-in_err-read_short-in_default-get c =
    let no_dot : get_or c.args.query.now (c.skip_blanks-place.result + 1) 0 ≡ 0x2E → ⊥ =
    elim c.in_default-get.branch [ in_default-get-via-in-Some+in_default w ↦ search rules | in_default-get-via-in_default w ↦ search rules ] in
    search (rules, step_refused (plain_led c.requires c.skip_blanks-place.ensures (search rules) (search rules)))

pub returns-in_default : goal.returns-in_default
returns-in_default c = step_other c.requires c.skip_blanks-place.ensures (search rules) (search rules) (search rules)

pub returns-in_default-2 : goal.returns-in_default-2
returns-in_default-2 c = step_cut c.requires c.skip_blanks-place.ensures (search rules)

pub returns : goal.returns
returns c = elim c.match-get-2.branch [
  | in-Some-eq91+in_ok-read_bracket-in-Some-eq91 w ↦
      let led = bracket_led c.requires c.skip_blanks-place.ensures (search rules) (search rules) in
      rw w.deep-is (step_taken led w.in_ok-read_bracket-in-Some-eq91.ensures)
  | in-Some-eq46+in-Some-eq46-get+in_ok-read_deep-in-Some-eq46-get w ↦
      let led = deep_led c.requires c.skip_blanks-place.ensures (search rules) (search rules) (search rules) (search rules) in
      rw w.deep-is (step_taken led w.in_ok-read_deep-in-Some-eq46-get.ensures)
  | in-Some-eq46+in_default-get+in_ok-read_short-in_default-get w ↦
      let no_dot : get_or c.args.query.now (c.skip_blanks-place.result + 1) 0 ≡ 0x2E → ⊥ =
      elim w.in_default-get.branch [ in_default-get-via-in-Some+in_default x ↦ search rules | in_default-get-via-in_default x ↦ search rules ] in
      let led = plain_led c.requires c.skip_blanks-place.ensures (search rules) (search rules) in
      rw w.deep-is (step_taken led (w.in_ok-read_short-in_default-get.ensures plain no_dot))
]
