-- Texts given to an output one after the other. Assumes nothing.
use mathlib.Core.Path.{◌≡◌, refl, sym, ap, ◌∙◌}
use mathlib.Core.Bool.{Bool, true, false}
use mathlib.Core.List.{List, [], ◌++◌, append-nil, append_assoc}
use Prim.Native.Nat.{ℕ, ◌+◌, ◌-◌}
use native.Mathlib.Omega.{arith}
use lib.ListN.{length, take, drop, length-append, drop_of_length-le, take-append-drop}
use lib.Seq.{take_at, length-take-le}
use borrow.Rule.Slice.PartMut.{mid_of, post_of, put_mid, same_len_mid, mid_len}
use Rattle.console.specs.Output.{Hands, Gives, Fits, put_behind, after, waiting}
use Rattle.console.specs.declared.output.Out.{Out}
use Rattle.std.specs.Prelude.{Result, Ok, Err}

never : {A : Type 0} (b : Bool) → b ≡ true → b ≡ false → A
never b bad good = let z : ◌≡◌ {A = ℕ} 0 1 = cc in absurd (omega arith)

-- An output that has failed takes nothing.
pub refused : (o : Out) (buf text : List ℕ) → o.failed ≡ true → Gives o buf text o buf
refused o buf text bad =
    record {
      handed = [];
      lost = text;
      order = refl;
      kept = λ good. never o.failed bad good;
      stopped = λ _. (refl, (refl, refl));
      same = refl;
      room = refl;
    }

-- All that waits, and a text behind it, handed to the system.
pub went : (o : Out) (buf text bytes : List ℕ) (h : Result ℕ ℕ) → o.failed ≡ false → waiting o buf ++ text ≡ bytes → Hands bytes h
    → Gives o buf text (after o h) buf
went o buf text bytes (Ok taken) good is hands =
    record {
      handed = take taken bytes;
      lost = drop taken bytes;
      order = is ∙ rw append-nil (sym (take-append-drop taken bytes));
      kept = λ _. drop_of_length-le bytes {i = taken} (omega (arith, hands));
      stopped = λ bad. never o.failed bad good;
      same = refl;
      room = refl;
    }
went o buf text bytes (Err taken) good is hands =
    record {
      handed = take taken bytes;
      lost = drop taken bytes;
      order = is ∙ rw append-nil (sym (take-append-drop taken bytes));
      kept = λ ok. never true refl ok;
      stopped = λ bad. never o.failed bad good;
      same = refl;
      room = refl;
    }

-- What was given and then failed is a failure of all that was to be given.
pub more : (o : Out) (buf text : List ℕ) (o' : Out) (buf' rest : List ℕ) → o'.failed ≡ true → Gives o buf text o' buf'
    → Gives o buf (text ++ rest) o' buf'
more o buf text o' buf' rest bad g =
    record {
      handed = g.handed;
      lost = g.lost ++ rest;
      order =
          sym (append_assoc (waiting o buf) text rest) ∙ ap (λ (l : List ℕ). l ++ rest) g.order
          ∙ append_assoc (g.handed ++ waiting o' buf') g.lost rest;
      kept = λ good. never o'.failed bad good;
      stopped = g.stopped;
      same = g.same;
      room = g.room;
    }

-- A text copied behind what waits.
pub stores : (o : Out) (buf text part : List ℕ) → o.failed ≡ false → Fits o buf text → part ≡ text
    → Gives o buf text (put_behind o (length text)) (put_mid o.waits (o.waits + length text - o.waits) buf part)
stores o buf text part good fits is =
    let w = o.waits in
    let n = w + length text - w in
    let front : length (take w buf) ≡ w = length-take-le w buf (omega arith) in
    let long : length (mid_of w n buf) ≡ n = mid_len w (w + length text) buf (omega arith) in
    let same : length part ≡ length (mid_of w n buf) = ap length is ∙ omega (arith, long) in
    let behind : put_mid w n buf part ≡ (take w buf ++ text) ++ post_of w n buf = rw is (simp append_assoc) in
    record {
      handed = [];
      lost = [];
      order =
          sym (take_at (take w buf ++ text) (post_of w n buf) (w + length text) (simp length-append (omega (arith, front))))
          ∙ ap (take (w + length text)) (sym behind) ∙ sym (append-nil _);
      kept = λ _. refl;
      stopped = λ bad. never o.failed bad good;
      same = refl;
      room = same_len_mid w n buf part same;
    }

-- One text behind another, while the first has not failed, and after it has.
module _ (o : Out) (buf text : List ℕ) (o₁ : Out) (buf₁ rest : List ℕ) (o₂ : Out) (buf₂ : List ℕ)
    (g : Gives o buf text o₁ buf₁) (h : Gives o₁ buf₁ rest o₂ buf₂) where
  going : o₁.failed ≡ false → Gives o buf (text ++ rest) o₂ buf₂
  going good =
      record {
        handed = g.handed ++ h.handed;
        lost = h.lost;
        order =
            sym (append_assoc (waiting o buf) text rest) ∙ ap (λ (l : List ℕ). l ++ rest) g.order
            ∙ rw (g.kept good, append-nil) (append_assoc g.handed (waiting o₁ buf₁) rest ∙ ap (λ (l : List ℕ). g.handed ++ l) h.order
            ∙ sym (append_assoc g.handed (h.handed ++ waiting o₂ buf₂) h.lost)
            ∙ ap (λ (l : List ℕ). l ++ h.lost) (sym (append_assoc g.handed h.handed (waiting o₂ buf₂))));
        kept = h.kept;
        stopped = λ bad. never o₁.failed (ap (λ (x : Out). x.failed) (g.stopped bad).1.0 ∙ bad) good;
        same = h.same ∙ g.same;
        room = h.room ∙ g.room;
      }

  ended : o₁.failed ≡ true → Gives o buf (text ++ rest) o₂ buf₂
  ended bad = rw ((h.stopped bad).1.0, (h.stopped bad).1.1) (more o buf text o₁ buf₁ rest bad g)

  by : (b : Bool) → o₁.failed ≡ b → Gives o buf (text ++ rest) o₂ buf₂
  by true bad = ended bad
  by false good = going good

  pub both : Gives o buf (text ++ rest) o₂ buf₂
  both = by o₁.failed refl
