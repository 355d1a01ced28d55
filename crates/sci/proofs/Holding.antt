-- L14, by bools: what an ended frame, a status read and a data read make of RDRF and OR, of the counts of the marks and of the account.
use mathlib.Core.Path.{◌≡◌, refl, ap, sym}
use mathlib.Core.Bool.{Bool, true, false, cond, not, ◌&&◌, ◌||◌, false≢true}
use mathlib.Core.List.{List, [], ◌∷◌}
use Prim.Native.Nat.{ℕ, suc, ◌+◌, min}
use native.Mathlib.Omega.{arith}
use Rattle.steps.specs.Bits.{digit}
use Rattle.sci.specs.claims.Line.{fresh_if}
use Rattle.sci.specs.model.Account.{most, more}
use Rattle.sci.specs.claims.Overrun.{Mark, frame_lost, word_came, delivery_marks, open_run}
use Rattle.sci.specs.declared.account.Account.{Account}
use Rattle.sci.proofs.Tallies.{Tally, tally, Rising}

-- RDRF and OR, set and seen. While a run of losses is open a word in SCDR is one that OR is set with; OR is never seen without it.
pub record Tied (rdrf or rdrf-seen or-seen opn : Bool) : Type 0 where
  pub lit : or ≡ true → opn ≡ true
  pub full : opn ≡ true → rdrf ≡ true → or ≡ true
  pub sub : or-seen ≡ true → or ≡ true
  pub both : or-seen ≡ true → rdrf ≡ true → rdrf-seen ≡ true

-- And the counts.
pub record Held (rdrf or rdrf-seen or-seen opn : Bool) (n : Tally) (a : Account) : Type 0 where
  pub tied : Tied rdrf or rdrf-seen or-seen opn
  pub balance : n.taken ≡ n.delivered + digit rdrf + n.lost
  pub taken : a.taken ≡ min most n.taken
  pub lost : a.lost ≡ min most n.lost

-- What marks make of it.
pub record Goes (opn : Bool) (n : Tally) (ms : List Mark) (P : Bool → Tally → Type 0) : Type 0 where
  pub holds : P (open_run opn ms) (tally n ms)
  pub rising : Rising opn ms

pub no : {A : Type 0} → false ≡ true → A
no e = absurd (false≢true e)

-- A frame that ends, taken or not.
abbrev pub frame_marks : Bool → Bool → Bool → ℕ → List Mark
frame_marks taken lost or w = cond lost (frame_lost (not or) ∷ []) (cond taken (word_came w ∷ []) [])

closed : (opn : Bool) → (opn ≡ true → false ≡ true) → true ≡ not opn
closed true f = no (f refl)
closed false f = refl

lose : (rdrf or rdrf-seen or-seen opn : Bool) (w : ℕ) (n : Tally) (a : Account) → not or ≡ not opn →
    Held rdrf or rdrf-seen or-seen opn n a →
    Goes opn n (frame_lost (not or) ∷ [])
    (λ o k. Held rdrf true rdrf-seen or-seen o k (record { taken = min most (a.taken + 1); lost = min most (a.lost + 1) }))
lose rdrf or rdrf-seen or-seen opn w n a e d =
    record {
      holds =
          record {
            tied = record { lit = λ _. refl; full = λ _ _. refl; sub = λ _. refl; both = d.tied.both };
            balance = omega (arith, d.balance);
            taken = omega (arith, d.taken);
            lost = omega (arith, d.lost);
          };
      rising = (e, tt);
    }

pub frame : (taken rdrf or rdrf-seen or-seen opn : Bool) (w : ℕ) (n : Tally) (a : Account) → Held rdrf or rdrf-seen or-seen opn n a →
    let lost : Bool = taken && (rdrf || or) in
    Goes opn n (frame_marks taken lost or w)
    (λ o k. Held (rdrf || (taken && not lost)) (or || lost) rdrf-seen or-seen o k (record { taken = more taken a.taken; lost = more lost a.lost }))
frame false true true rdrf-seen or-seen opn w n a d = record { holds = d; rising = tt }
frame false true false rdrf-seen or-seen opn w n a d = record { holds = d; rising = tt }
frame false false true rdrf-seen or-seen opn w n a d = record { holds = d; rising = tt }
frame false false false rdrf-seen or-seen opn w n a d = record { holds = d; rising = tt }
frame true true true rdrf-seen or-seen opn w n a d =
    lose true true rdrf-seen or-seen opn w n a (ap not (sym (d.tied.lit refl))) d
frame true true false rdrf-seen or-seen opn w n a d =
    lose true false rdrf-seen or-seen opn w n a (closed opn (λ e. d.tied.full e refl)) d
frame true false true rdrf-seen or-seen opn w n a d =
    lose false true rdrf-seen or-seen opn w n a (ap not (sym (d.tied.lit refl))) d
frame true false false rdrf-seen or-seen opn w n a d =
    record {
      holds =
          record {
            tied = record { lit = no; full = no; sub = d.tied.sub; both = λ e _. no (d.tied.sub e) };
            balance = omega (arith, d.balance);
            taken = omega (arith, d.taken);
            lost = d.lost;
          };
      rising = tt;
    }

-- A status read marks what is set.
pub look : (rdrf or rdrf-seen or-seen opn : Bool) (n : Tally) (a : Account) → Held rdrf or rdrf-seen or-seen opn n a →
    Held rdrf or (rdrf-seen || rdrf) (or-seen || or) opn n a
look rdrf or rdrf-seen or-seen opn n a d =
    record {
      tied =
          record {
            lit = d.tied.lit;
            full = d.tied.full;
            sub = λ e. either or-seen or d.tied.sub e;
            both = λ _ r. right rdrf-seen rdrf r;
          };
      balance = d.balance;
      taken = d.taken;
      lost = d.lost;
    }
  where
    either : (a b : Bool) → (a ≡ true → b ≡ true) → a || b ≡ true → b ≡ true
    either true b f e = f refl
    either false b f e = e

    right : (a b : Bool) → b ≡ true → a || b ≡ true
    right true b e = refl
    right false b e = e

-- A data read lets the seen ones fall: RDRF falls with a word delivered, and OR not without it.
abbrev left : Bool → Bool → Bool
left set seen = set && not (set && seen && true)

abbrev left_seen : Bool → Bool → Bool
left_seen set seen = seen && not (set && seen && true)

fallen : (opn or rdrf-seen : Bool) → (or ≡ true → opn ≡ true) → Tied false or rdrf-seen false opn
fallen opn or rdrf-seen f = record { lit = f; full = λ _. no; sub = no; both = no }

given : (or rdrf-seen or-seen opn or' : Bool) (n : Tally) (a : Account) → (or' ≡ true → opn ≡ true) → Held true or rdrf-seen or-seen opn n a →
    Held false or' false false opn (record { taken = n.taken; lost = n.lost; delivered = suc n.delivered }) a
given or rdrf-seen or-seen opn or' n a f d =
    record { tied = fallen opn or' false f; balance = omega (arith, d.balance); taken = d.taken; lost = d.lost }

dropped : (rdrf-seen : Bool) {opn : Bool} {n : Tally} {a : Account} → Held false true rdrf-seen true opn n a →
    Held false false rdrf-seen false opn n a
dropped rdrf-seen d =
    record { tied = fallen _ false rdrf-seen no; balance = d.balance; taken = d.taken; lost = d.lost }

pub fetch : (rdrf or rdrf-seen or-seen opn : Bool) (w : ℕ) (n : Tally) (a : Account) → Held rdrf or rdrf-seen or-seen opn n a →
    Goes opn n (delivery_marks (fresh_if (rdrf && not (left rdrf rdrf-seen)) w))
    (λ o k. Held (left rdrf rdrf-seen) (left or or-seen) (left_seen rdrf rdrf-seen) (left_seen or or-seen) o k a)
fetch true true true true opn w n a d = record { holds = given true true true opn false n a no d; rising = tt }
fetch true true true false opn w n a d = record { holds = given true true false opn true n a d.tied.lit d; rising = tt }
fetch true true false true opn w n a d = no (d.tied.both refl refl)
fetch true true false false opn w n a d = record { holds = d; rising = tt }
fetch true false rdrf-seen true opn w n a d = no (d.tied.sub refl)
fetch true false true false opn w n a d = record { holds = given false true false opn false n a no d; rising = tt }
fetch true false false false opn w n a d = record { holds = d; rising = tt }
fetch false true true true opn w n a d = record { holds = dropped true d; rising = tt }
fetch false true false true opn w n a d = record { holds = dropped false d; rising = tt }
fetch false true true false opn w n a d = record { holds = d; rising = tt }
fetch false true false false opn w n a d = record { holds = d; rising = tt }
fetch false false rdrf-seen true opn w n a d = no (d.tied.sub refl)
fetch false false true false opn w n a d = record { holds = d; rising = tt }
fetch false false false false opn w n a d = record { holds = d; rising = tt }
