-- The text for an answer is that of a refusal or that of the matches, by the ground. Each number has at most ten digits, so that 8,192
-- bytes hold the lines of 256 pairs. Assumes nothing.
use native.Mathlib.Omega.{arith}
use Rattle.text.specs.DecimalLaws.{decimal_word}
use Rattle.lines.specs.Lines.{matches, refusal}
use Rattle.lines.specs.LineLaws.{report_taken, report_refused}
use Rattle.text.specs.Put.{Room}
use Rattle.text.specs.PutLaws.{printed}
use Rattle.lines.specs.SizeLaws.{refusal_size, matches_size}
use Rattle.lines.proofs.output.write_answer.Goals as goal

pub write_refusal-requires : goal.write_refusal-requires
write_refusal-requires c =
    record { fits = omega (arith, refusal_size c.args.ground c.args.place c.ranges.ground.fits c.ranges.place.fits) }

pub returns-then-ground-ne0 : goal.returns-then-ground-ne0
returns-then-ground-ne0 c =
    let a = c.args in
    let room : Room (refusal a.ground a.place) 0 a.out.now =
    record { fits = omega (arith, refusal_size a.ground a.place c.ranges.ground.fits c.ranges.place.fits) } in
    rw (report_refused a.ground a.place a.pairs a.list.now c.if-ground-ne0.true) (printed c.write_refusal.ensures room)

pub write_matches-requires : goal.write_matches-requires
write_matches-requires c =
    let a = c.args in
    let size = matches_size a.list.now 10 (λ j. decimal_word _ (c.type_inv.list j).fits) a.pairs c.requires.pairs_le_max_pairs in
    record { pairs_in_bounds = c.requires.pairs_in_bounds; room = record { fits = omega (arith, size) } }

pub returns : goal.returns
returns c =
    let a = c.args in
    let size = matches_size a.list.now 10 (λ j. decimal_word _ (c.type_inv.list j).fits) a.pairs c.requires.pairs_le_max_pairs in
    let room : Room (matches a.pairs a.list.now) 0 a.out.now = record { fits = omega (arith, size) } in
    rw (report_taken a.ground a.place a.pairs a.list.now c.if-ground-ne0.false) (printed c.write_matches.ensures room)
