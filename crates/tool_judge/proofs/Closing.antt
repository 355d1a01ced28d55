-- The end of the log: bytes after the last answer are a wrong one. Assumes nothing.
use mathlib.Core.Path.{◌≡◌, refl, sym, ap, ◌∙◌}
use mathlib.Core.Bool.{Bool, true, false, cond}
use mathlib.Core.List.{List, [], append-nil}
use Prim.Native.Nat.{ℕ, ◌+◌, ◌*◌, min}
use native.Mathlib.Omega.{arith}
use lib.Dec.{ltb}
use lib.ListN.{length, take, drop, length-drop}
use borrow.Author.Tests.{ltb-true, ltb-false}
use Rattle.qsm.specs.model.State.{reset_module}
use Rattle.qsm.specs.declared.state.Module.{Module}
use Rattle.trace.specs.Trace.{answer_length}
use Rattle.trace.specs.Play.{Outcome}
use Rattle.trace.proofs.Laws.{bytes_each}
use Rattle.answers.specs.declared.Field.TheVariants.{Kind}
use Rattle.tool_judge.specs.Verdict.{verdict, numbered, before}
use Rattle.tool_judge.specs.Judge.{enough, expected, judged, walked_to, walked}
use Rattle.tool_judge.specs.declared.Judged.{Judged}
use Rattle.tool_judge.specs.Verdict.{Verdict, accept, reject}
use Rattle.tool_judge.specs.declared.Walked.{Walked}
use Rattle.tool_judge.proofs.Verdicts.{none_right, none_wrong, joined}

module _ (log : List ℕ) (o : Outcome) (bytes : length o.answers ≡ answer_length * length o.records) where
  abbrev left : List ℕ
  left = drop (length o.answers) log

  -- What is left over, numbered on.
  surplus : (t : Bool) → ltb (min (length o.answers) (length log)) (length log) ≡ t
      → numbered (length o.records) (verdict [] left) ≡ cond t (reject (length o.records) Kind) accept
  surplus true h =
      let less = ltb-true (min (length o.answers) (length log)) (length log) h in
      let here : length o.records + 0 ≡ length o.records = omega arith in
      ap (numbered (length o.records)) (none_wrong left (omega (arith, length-drop (length o.answers) log)))
      ∙ ap (λ (k : ℕ). reject k Kind) here
  surplus false h =
      let le = ltb-false (min (length o.answers) (length log)) (length log) h in
      ap (numbered (length o.records)) (none_right left (omega (arith, length-drop (length o.answers) log)))

  closing : before (walked_to log o).verdict (cond (ltb (walked_to log o).passed (length log)) (reject (walked_to log o).records Kind) accept) ≡ verdict o.answers log
  closing =
      sym (ap (λ (l : List ℕ). verdict l log) (sym (append-nil o.answers)) ∙ joined o.answers [] log (length o.records) bytes
      ∙ ap (before (verdict o.answers (take (length o.answers) log))) (surplus (ltb (min (length o.answers) (length log)) (length log)) refl))

-- The walk over a whole trace beside a whole log.
pub concluding : (t log : List ℕ) (m : Module) (w : Walked) (v : Verdict) → m ≡ reset_module → w ≡ walked m t log true
    → v ≡ before w.verdict (cond (ltb w.passed (length log)) (reject w.records Kind) accept)
    → ◌≡◌ {A = Judged} (record { verdict = v; stop = w.stop }) (judged t log)
concluding t log m w v is_m is-w is-v =
    rw (is-v, is-w, is_m) (ap (λ (u : Verdict). record { verdict = u; stop = (expected t).stop }) (closing log (expected t) (bytes_each reset_module t (enough t))))
