-- How the receiver, the line being gathered and the account of what happened stand to each other. Assumes nothing.
use mathlib.Core.Path.{◌≡◌, refl, ap, sym, subst, ◌∙◌}
use mathlib.Core.Bool.{Bool, true, false, cond}
use mathlib.Core.List.{List, [], ◌∷◌, ◌++◌, append_assoc}
use mathlib.Core.Option.{Option, none, some}
use Prim.Native.Nat.{ℕ, zero, suc, ◌%◌, ◌≤◌}
use native.Mathlib.Omega.{arith}
use lib.Dec.{eqb}
use lib.ListN.{length, take}
use Rattle.sci.specs.model.Serial.{clocked}
use Rattle.sci.specs.claims.History.{step, run}
use Rattle.sci.specs.declared.serial.Sci.{Sci}
use Rattle.sci.proofs.History.{clocks}
use Rattle.qsm.specs.model.Event.{clock_module}
use Rattle.qsm.specs.declared.state.Module.{Module}
use Rattle.tool_lines.specs.Gather.{Report, most, overrun, forgotten}
use Rattle.tool_lines.specs.declared.line.Line.{Line}
use Rattle.claims_lines.specs.Happened.{Damage, Happening, frame_lost, word_came, clock_happens, clocks_happen}
use Rattle.claims_lines.specs.Segment.{ends, or_else, numbered}
use Rattle.claims_lines.proofs.Slots.{Slot, slot_of, empty, holding, from_empty, from_holding}
use Rattle.claims_lines.proofs.Account.{Account, closing, growing, came, touched, restarted, account, InTurn}

-- The line being gathered, as far as the account of the words delivered goes.
pub record Match (l : Line) (a : Account) : Type 0 where
  pub number : l.number ≡ numbered a.number
  pub cause : l.cause ≡ a.cause
  pub size : length l.characters ≡ most
  pub few : l.count ≤ most
  pub letters : a.cause ≡ 0 → (l.count ≡ length a.letters) × (take l.count l.characters ≡ a.letters)

-- With a word that waits, and whether a frame was lost since.
abbrev pub pended : Account → ℕ → Damage → Bool → Account
pended a w d over = cond over (touched (came a w d)) (came a w d)

pub data Stands : Slot → Line → Account → Option ℕ → Type 0 where
  clear : {l : Line} {a : Account} (u : ℕ) → Match l a → Stands (empty u) l a none
  waits : {l : Line} (w : ℕ) (d : Damage) (over : Bool) (a : Account) → Match l a → Stands (holding w d over) l (pended a w d over) (some w)

-- What is reported is what the account tells, and words come in turn.
pub record Done (out : List Report) (a : Account) (q : Option ℕ) (h : List Happening) : Type 0 where
  pub reports : out ≡ account a h
  pub turn : InTurn q h

done_came : (out : List Report) (a : Account) (w : ℕ) (d : Damage) (h : List Happening) → Done out (came a w d) (some w) h →
    Done out a none (word_came w d ∷ h)
unfolding account
done_came out a w d h k = record { reports = k.reports; turn = k.turn }

done_lost : (out : List Report) (a : Account) (q : Option ℕ) (raises : Bool) (h : List Happening) → Done out (touched a) q h →
    Done out a q (frame_lost raises ∷ h)
unfolding account
done_lost out a q raises h k = record { reports = k.reports; turn = k.turn }

touched_twice : (c : ℕ) → or_else (or_else c overrun) overrun ≡ or_else c overrun
touched_twice c = go (eqb c 0) refl
  where
    go : (b : Bool) → eqb c 0 ≡ b → or_else (cond b overrun c) overrun ≡ cond b overrun c
    go true e = refl
    go false e = rw e

touched_pended : (a : Account) (w : ℕ) (d : Damage) (over : Bool) → touched (pended a w d over) ≡ pended a w d true
touched_pended a w d true = rw (touched_twice (came a w d).cause)
touched_pended a w d false = refl

-- A clock, and then the rest.
module _ (s : Sci) (x : Bool) (l : Line) (out : List Report) (h : List Happening) where
  abbrev Goal : Account → Option ℕ → List Happening → Slot → Type 0
  Goal a q e v = ((b : Account) (p : Option ℕ) → Stands v l b p → Done out b p h) → Done out a q (e ++ h)

  clock_goal : (v : Slot) (a : Account) (q : Option ℕ) → slot_of s ≡ v → Stands v l a q → Goal a q (clock_happens s x) (slot_of (clocked s x))
  clock_goal v a q e (clear u m) =
      from_empty (Goal a none) s x u e (λ k. k a none (clear u m))
      (λ w d k. done_came out a w d h (k (came a w d) (some w) (waits w d false a m)))
  clock_goal v a q e (waits w d over a₀ m) =
      from_holding (Goal (pended a₀ w d over) (some w)) s x w d over e (λ k. k (pended a₀ w d over) (some w) (waits w d over a₀ m))
      (λ raises k. done_lost out (pended a₀ w d over) (some w) raises h
      (subst (λ (b : Account). Done out b (some w) h) (sym (touched_pended a₀ w d over)) (k (pended a₀ w d true) (some w) (waits w d true a₀ m))))

  pub clock_done : (a : Account) (q : Option ℕ) → Stands (slot_of s) l a q → Goal a q (clock_happens s x) (slot_of (clocked s x))
  clock_done a q st = clock_goal (slot_of s) a q refl st

-- The clocks of a hold, by the serial half.
abbrev pub serial_happens : ℕ → Bool → Sci → List Happening
serial_happens zero x s = []
serial_happens (suc n) x s = clock_happens s x ++ serial_happens n x (clocked s x)

pub hold_happens : (n : ℕ) (x : Bool) (m : Module) → clocks_happen n x m ≡ serial_happens n x m.sci
unfolding clock_module
hold_happens zero x m = refl
hold_happens (suc n) x m = ap (λ (h : List Happening). clock_happens m.sci x ++ h) (hold_happens n x (clock_module x m))

pub hold_done : (n : ℕ) (x : Bool) (s : Sci) (l : Line) (a : Account) (q : Option ℕ) (out : List Report) (h : List Happening) →
    Stands (slot_of s) l a q → ((b : Account) (p : Option ℕ) → Stands (slot_of (run (clocks n x) s)) l b p → Done out b p h) →
    Done out a q (serial_happens n x s ++ h)
unfolding run step
hold_done zero x s l a q out h st k = k a q st
hold_done (suc n) x s l a q out h st k =
    subst (Done out a q) (sym (append_assoc (clock_happens s x) (serial_happens n x (clocked s x)) h))
    (clock_done s x l out (serial_happens n x (clocked s x) ++ h) a q st
    (λ b p u. hold_done n x (clocked s x) l b p out h u k))

-- A reset.
reset_number : (a : Account) (w : ℕ) (d : Damage) (over : Bool) → (pended a w d over).number ≡ a.number
reset_number a w d true = go (ends w)
  where
    go : (b : Bool) → (cond b (closing a d) (growing a (w % 128) d)).number ≡ a.number
    go true = refl
    go false = refl
reset_number a w d false = go (ends w)
  where
    go : (b : Bool) → (cond b (closing a d) (growing a (w % 128) d)).number ≡ a.number
    go true = refl
    go false = refl

forgotten_match : (l : Line) (a b : Account) → Match l a → b.number ≡ a.number → Match (forgotten l) (restarted b)
forgotten_match l a b m e =
    record {
      number = m.number ∙ ap numbered (sym e);
      cause = refl;
      size = m.size;
      few = omega arith;
      letters = λ z. (refl, refl);
    }

pub stands_reset : (v : Slot) (l : Line) (a : Account) (q : Option ℕ) → Stands v l a q → Match (forgotten l) (restarted a)
stands_reset v l a q (clear u m) = forgotten_match l a a m refl
stands_reset v l a q (waits w d over a₀ m) = forgotten_match l a₀ (pended a₀ w d over) m (reset_number a₀ w d over)

-- The first line.
pub first_match : (l : Line) (a : Account) → l.number ≡ numbered a.number → l.cause ≡ 0 → a.cause ≡ 0 → l.count ≡ 0 →
    a.letters ≡ [] → length l.characters ≡ most → Match l a
first_match l a n c c' k e z =
    record {
      number = n;
      cause = c ∙ sym c';
      size = z;
      few = omega (arith, k);
      letters = λ _. (rw (k, e), rw (k, e));
    }
