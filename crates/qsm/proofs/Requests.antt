-- The laws of requests: who wins, at which level and with which vector. Assumes nothing.
use mathlib.Core.Path.{◌≡◌, refl, sym, ap, subst, ◌∙◌}
use mathlib.Core.Bool.{Bool, true, false, cond}
use Prim.Native.Nat.{ℕ, ◌+◌, ◌*◌, ◌/◌, ◌%◌, ◌<◌, ◌≤◌}
use native.Mathlib.Omega.{arith}
use lib.Dec.{eqb, leb}
use borrow.Author.Tests.{leb-true, leb-false, eqb-true, eqb-false, eq-eqb, ne_eqb}
use Rattle.steps.specs.Bits.{bit}
use Rattle.qsm.specs.model.Pins.{outputs, mask, levels}
use Rattle.qsm.specs.model.Request.{vector_of, request}
use Rattle.qsm.specs.model.Event.{answer_of, does, step}
use Rattle.qsm.specs.claims.StatusFlags.{Half, SCI, QSPI, Flag, half}
use Rattle.qsm.specs.claims.RequestClauses.{asks, level_of, low_bit, RequestClauses}
use Rattle.qsm.specs.declared.state.Module.{Module}
use Rattle.qsm.specs.declared.request.Request.{Request}
use Rattle.qsm.specs.declared.event.Event.{Event}
use Rattle.qsm.specs.declared.event.Answer.{Answer}
use Rattle.qsm.proofs.Asking.{asking, each, some_serial, some_queue}

-- The winner by cases: nobody; QSPI; SCI.
winner_by : (P : Request → Type 0) (x y v : ℕ) →
    (x ≡ 0 → y ≡ 0 → P (record { level = 0; vector = 0 })) →
    (0 < x → y ≤ x → P (record { level = x; vector = vector_of true v })) →
    (x < y → P (record { level = y; vector = vector_of false v })) → (t u : Bool) → leb y x ≡ t → eqb x 0 ≡ u →
    P (cond t (cond u (record { level = 0; vector = 0 }) (record { level = x; vector = vector_of true v })) (record { level = y; vector = vector_of false v }))
winner_by P x y v a b c true true t u =
    a (eqb-true x 0 u) (omega (arith, leb-true y x t, eqb-true x 0 u))
winner_by P x y v a b c true false t u =
    let no : x ≡ 0 → ⊥ = eqb-false x 0 u in b (omega (arith, no)) (leb-true y x t)
winner_by P x y v a b c false u t v' = c (leb-false y x t)

-- The level at which a half asks; 0 where it doesn't.
abbrev at : Module → Half → ℕ
at m h = cond (asking m h) (level_of m h) 0

at_asking : (m : Module) (f : Flag) → asks m f ≡ true → level_of m (half f) ≡ at m (half f)
at_asking m f h = ap (λ (b : Bool). cond b (level_of m (half f)) 0) (sym (each m f h))

asks_above : (b : Bool) (l : ℕ) → 0 < cond b l 0 → (b ≡ true) × (cond b l 0 ≡ l)
asks_above true l h = (refl, refl)
asks_above false l h = absurd (omega arith)

bounded : (m : Module) (l : ℕ) → at m SCI ≤ l → at m QSPI ≤ l → (f : Flag) → asks m f ≡ true → level_of m (half f) ≤ l
bounded m l s q f h = rw (at_asking m f h) (by (half f))
  where
    by : (h : Half) → at m h ≤ l
    by SCI = s
    by QSPI = q

one_low : (v : ℕ) → bit 0 (v / 2 * 2 + 1) ≡ true
one_low v = eq-eqb ((v / 2 * 2 + 1) / 1 % 2) 1 (omega arith)

zero_low : (v : ℕ) → bit 0 (v / 2 * 2) ≡ false
zero_low v = ne_eqb (v / 2 * 2 / 1 % 2) 1 (λ e. omega arith)

-- The answer with a request.
abbrev with_request : Module → ℕ → ℕ → Request → Answer
with_request m refusal value r =
    record {
      refusal = refusal;
      value = value;
      levels = levels (outputs m);
      mask = mask (outputs m);
      level = r.level;
      vector = r.vector;
      clock = m.clock;
    }

module _ (m : Module) (refusal value : ℕ) where
  nobody : at m QSPI ≡ 0 → at m SCI ≡ 0 →
      RequestClauses m (with_request m refusal value (record { level = 0; vector = 0 }))
  nobody x y =
      record {
        higher = bounded m 0 (omega arith) (omega arith);
        shows = λ h. absurd (omega arith);
        tie = λ f q a e h. absurd (omega arith);
        none = λ h. refl;
      }

  queue_wins : 0 < at m QSPI → at m SCI ≤ at m QSPI →
      RequestClauses m (with_request m refusal value (record { level = at m QSPI; vector = vector_of true m.qivr }))
  queue_wins above le =
      record {
        higher = bounded m (at m QSPI) le (omega arith);
        shows =
            λ h. some_queue m (asks_above (asking m QSPI) (level_of m QSPI) above).0 (λ f q a. (
              f,
              record {
                asking = a;
                level = (asks_above (asking m QSPI) (level_of m QSPI) above).1 ∙ ap (level_of m) (sym q);
                upper = omega arith;
                lowest = one_low m.qivr ∙ ap low_bit (sym q);
              },
            ));
        tie = λ f q a e h. one_low m.qivr;
        none = λ h. absurd (omega arith);
      }

  serial_wins : at m QSPI < at m SCI →
      RequestClauses m (with_request m refusal value (record { level = at m SCI; vector = vector_of false m.qivr }))
  serial_wins less =
      record {
        higher = bounded m (at m SCI) (omega arith) (omega arith);
        shows =
            λ h. some_serial m (asks_above (asking m SCI) (level_of m SCI) (omega arith)).0 (λ f s a. (
              f,
              record {
                asking = a;
                level = (asks_above (asking m SCI) (level_of m SCI) (omega arith)).1 ∙ ap (level_of m) (sym s);
                upper = omega arith;
                lowest = zero_low m.qivr ∙ ap low_bit (sym s);
              },
            ));
        tie =
            λ f q a e h. absurd (omega (arith, subst (λ (k : Half). level_of m k ≡ at m k) q (at_asking m f a)));
        none = λ h. absurd (omega arith);
      }

  pub shown : RequestClauses m (answer_of m refusal value)
  unfolding answer_of request
  shown =
      winner_by (λ r. RequestClauses m (with_request m refusal value r)) (at m QSPI) (at m SCI) m.qivr nobody queue_wins
      serial_wins (leb (at m SCI) (at m QSPI)) (eqb (at m QSPI) 0) refl refl

pub requests : (m : Module) (e : Event) → RequestClauses (step m e).state (step m e).answer
unfolding step
requests m e = shown (does m e).state (does m e).refusal (does m e).value
