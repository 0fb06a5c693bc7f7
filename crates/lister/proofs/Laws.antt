-- From what the reader of the query and the check of the record promise to what is admitted, and the answer by what a walk counted.
-- Assumes nothing.
use Rattle.std.specs.Prelude.{Ok, Err}
use mathlib.Core.Path.{◌≡◌, refl, sym, ap, ◌∙◌}
use mathlib.Core.List.{List, []}
use Prim.Native.Nat.{ℕ, zero, suc, ◌-◌}
use native.Mathlib.Nat.{pos_of_ne-zero}
use native.Mathlib.Omega.{arith}
use Rattle.json_text.specs.Verdict.{record_verdict}
use Rattle.query.specs.Verdict.{query_verdict}
use Rattle.query_parser.specs.Answer.{QueryRead}
use Rattle.query_parser.specs.declared.compiled.Compiled.{Compiled}
use Rattle.encoding.specs.Verdict.{Verdict, taken}
use Rattle.encoding.specs.Refusals.{number_of, refused}
use Rattle.encoding.specs.RefusalLaws.{some_ground}
use Rattle.encoding.specs.declared.refusals.Refusal.{Refusal}
use Rattle.answers.specs.Lister.{input_verdict}
use Rattle.answers.proofs.ListerIs.{refuses_first}
use Rattle.answers.specs.Small.{query_place, record_place}
use Rattle.automaton.specs.Lists.{query_taken_by, lists_query, lists_record}
use Rattle.lister.specs.Answers.{Admits, concluded}

module _ (q r names : List ℕ) where
  pub query_refused : {e : Refusal} → QueryRead q names (Err e) → Admits q r names (Err e)
  unfolding input_verdict
  query_refused {e} read =
      let n : number_of e.ground ≡ 0 → ⊥ = some_ground e.ground in
      let g : number_of e.ground ≡ (query_verdict q).ground = ap (λ (v : Verdict). v.ground) read.verdict in
      let p : e.place ≡ (query_verdict q).place = ap (λ (v : Verdict). v.place) read.verdict in
      record {
        verdict = read.verdict ∙ sym (refuses_first (query_verdict q) (record_verdict r) (omega (arith, pos_of_ne-zero n)));
        refuses = λ l. lists_query q r l (number_of e.ground) e.place g p n;
        place_small = omega (arith, query_place q);
        query_taken = tt;
        record_taken = tt;
        steps_are = tt;
      }

  module _ {s : Compiled} (read : QueryRead q names (Ok s)) where
    query_taken : (query_verdict q).ground ≡ 0
    query_taken = sym (ap (λ (v : Verdict). v.ground) read.verdict)

    taken_first : input_verdict q r ≡ record_verdict r
    taken_first = query_taken_by q r [] query_taken

    pub record_refused : {e : Refusal} → refused e ≡ record_verdict r → Admits q r names (Err e)
    record_refused {e} f =
        let g : number_of e.ground ≡ (record_verdict r).ground = ap (λ (v : Verdict). v.ground) f in
        let p : e.place ≡ (record_verdict r).place = ap (λ (v : Verdict). v.place) f in
        record {
          verdict = f ∙ sym taken_first;
          refuses = λ l. lists_record q r l (number_of e.ground) e.place query_taken g p (some_ground e.ground);
          place_small = omega (arith, record_place r);
          query_taken = tt;
          record_taken = tt;
          steps_are = tt;
        }

    pub both_taken : taken ≡ record_verdict r → Admits q r names (Ok s)
    both_taken f = record {
      verdict = f ∙ sym taken_first;
      refuses = tt;
      place_small = tt;
      query_taken = query_taken;
      record_taken = sym (ap (λ (v : Verdict). v.ground) f);
      steps_are = read.steps;
    }
