-- Where nothing is lost or damaged, the account of what happened is the lines of the words delivered. Assumes nothing.
use mathlib.Core.Path.{◌≡◌, refl, ap, ap₂, sym, subst, ◌∙◌}
use mathlib.Core.Bool.{Bool, true, false, cond}
use mathlib.Core.List.{List, [], ◌∷◌, ◌++◌}
use mathlib.Core.Option.{Option, none, some}
use Prim.Native.Nat.{ℕ, suc, ◌%◌}
use native.Mathlib.Omega.{arith}
use lib.Dec.{eqb, ltb}
use lib.ListN.{length, length-append}
use borrow.Author.Tests.{ltb-true, ltb-false}
use Rattle.tool_lines.specs.Gather.{Report, handed, dropped, most, too_long}
use Rattle.claims_lines.specs.Happened.{Damage, Happening, frame_lost, word_came, status_read, word_delivered, was_reset}
use Rattle.claims_lines.specs.Segment.{ends, numbered, or_else, damaged}
use Rattle.claims_lines.specs.Witness.{read}
use Rattle.claims_lines.specs.Witness as played
use Rattle.claims_lines.proofs.Recorded.{met}
use Rattle.claims_lines.proofs.Account.{Account, fresh, closing, growing, came, counted, report, next, tells, account, InTurn}
use Rattle.tool_lines.specs.Replay.{lines}
use Rattle.claims_lines.specs.Claims.{heard}
use Rattle.claims_lines.proofs.Stands.{Done}
use Rattle.claims_lines.proofs.Lines.{by_account}
use Rattle.claims_text.specs.Lines.{line_report, lines_from, text_lines, delivered, Clean, LinesOfWords, TextLines}

abbrev why : List ℕ → ℕ
why cs = cond (ltb most (length cs)) too_long 0

-- Nothing waits: the characters so far are cs, of line k. Or a word waits that came behind them.
abbrev Open : ℕ → List ℕ → Account → Type 0
Open k cs a = (a.number ≡ k) × (a.cause ≡ why cs) × (a.letters ≡ cs)

abbrev State : ℕ → List ℕ → Option ℕ → Account → Type 0
State k cs none a = Open k cs a
State k cs (some v) a = (d : Damage) × (damaged d ≡ 0) × (b : Account) × Open k cs b × (a ≡ came b v d)

why_next : (cs : List ℕ) (c : ℕ) → or_else (or_else (why cs) 0) (cond (ltb (length cs) most) 0 too_long) ≡ why (cs ++ (c ∷ []))
why_next cs c = go (ltb most (length cs)) refl (ltb (length cs) most) refl (ltb most (length (cs ++ (c ∷ [])))) refl
  where
    go : (x : Bool) → ltb most (length cs) ≡ x → (y : Bool) → ltb (length cs) most ≡ y → (z : Bool) → ltb most (length (cs ++ (c ∷ []))) ≡ z →
        or_else (or_else (cond x too_long 0) 0) (cond y 0 too_long) ≡ cond z too_long 0
    go true p y q true r = refl
    go true p y q false r = absurd (omega (arith, ltb-true most (length cs) p, ltb-false most (length (cs ++ (c ∷ []))) r, length-append cs (c ∷ [])))
    go false p true q true r = absurd (omega (arith, ltb-true (length cs) most q, ltb-true most (length (cs ++ (c ∷ []))) r, length-append cs (c ∷ [])))
    go false p true q false r = refl
    go false p false q true r = refl
    go false p false q false r = absurd (omega (arith, ltb-false (length cs) most q, ltb-false most (length (cs ++ (c ∷ []))) r, length-append cs (c ∷ [])))

report_is : (k : ℕ) (cs : List ℕ) → cond (eqb (or_else (why cs) 0) 0) (handed (numbered k) cs) (dropped (numbered k) (or_else (why cs) 0)) ≡ line_report k cs
report_is k cs = go (ltb most (length cs))
  where
    go : (x : Bool) → cond (eqb (or_else (cond x too_long 0) 0) 0) (handed (numbered k) cs) (dropped (numbered k) (or_else (cond x too_long 0) 0))
        ≡ cond x (dropped (numbered k) too_long) (handed (numbered k) cs)
    go true = refl
    go false = refl

abbrev Rest : List Happening → Type 0
Rest h = (k : ℕ) (cs : List ℕ) (a : Account) → Open k cs a → account a h ≡ lines_from k cs (delivered h)

-- The word that waits is delivered.
given : (h : List Happening) (v k : ℕ) (cs : List ℕ) (d : Damage) (b : Account) → damaged d ≡ 0 → Open k cs b → Rest h →
    tells (came b v d) (word_delivered v) ++ account (next (came b v d) (word_delivered v)) h ≡ lines_from k cs (v ∷ delivered h)
unfolding lines_from
given h v k cs d b clean s ih = go (ends v)
  where
    go : (e : Bool) →
        cond e (report (cond e (closing b d) (growing b (v % 128) d)) ∷ []) [] ++ account (cond e (counted (cond e (closing b d) (growing b (v % 128) d))) (cond e (closing b d) (growing b (v % 128) d))) h
        ≡ cond e (line_report k cs ∷ lines_from (suc k) [] (delivered h)) (lines_from k (cs ++ (v % 128 ∷ [])) (delivered h))
    go true =
        ap₂ (λ (r : Report) (l : List Report). r ∷ l)
        ((λ j. cond (eqb (or_else (s.1 j) (clean j)) 0) (handed (numbered (s.0 j)) (s.2 j)) (dropped (numbered (s.0 j)) (or_else (s.1 j) (clean j))))
        ∙ report_is k cs)
        (ih (suc k) [] (counted (closing b d)) (ap suc s.0, refl, refl))
    go false =
        ih k (cs ++ (v % 128 ∷ [])) (growing b (v % 128) d)
        (s.0, (λ j. or_else (or_else (s.1 j) (clean j)) (cond (ltb (length (s.2 j)) most) 0 too_long)) ∙ why_next cs (v % 128), ap (λ (l : List ℕ). l ++ (v % 128 ∷ [])) s.2)

accounts : (h : List Happening) (q : Option ℕ) (k : ℕ) (cs : List ℕ) (a : Account) → Clean h → InTurn q h → State k cs q a →
    account a h ≡ lines_from k cs (delivered h)
unfolding account delivered Clean lines_from
accounts [] q k cs a c t s = refl
accounts (frame_lost raises ∷ h) q k cs a c t s = absurd c
accounts (word_came w d ∷ h) none k cs a c t s = accounts h (some w) k cs (came a w d) c.1 t (d, c.0, a, s, refl)
accounts (word_came w d ∷ h) (some v) k cs a c t s = absurd t
accounts (status_read ∷ h) none k cs a c t s = accounts h none k cs a c t s
accounts (status_read ∷ h) (some v) k cs a c t s = accounts h (some v) k cs a c t s
accounts (word_delivered w ∷ h) none k cs a c t s = absurd t
accounts (word_delivered w ∷ h) (some v) k cs a c t s =
    subst (λ (u : ℕ). tells a (word_delivered u) ++ account (next a (word_delivered u)) h ≡ lines_from k cs (u ∷ delivered h)) (sym t.0)
    (subst (λ (b : Account). tells b (word_delivered v) ++ account (next b (word_delivered v)) h ≡ lines_from k cs (v ∷ delivered h)) (sym s.4)
    (given h v k cs s.0 s.2 s.1 s.3 (λ k cs a st. accounts h none k cs a c t.1 st)))
accounts (was_reset ∷ h) q k cs a c t s = absurd c

pub account_lines : (h : List Happening) → Clean h → InTurn none h → account fresh h ≡ text_lines (delivered h)
account_lines h c t = accounts h none 0 [] fresh c t (refl, refl, refl)

pub lines_of_words : LinesOfWords
lines_of_words period t c =
    let d : Done (lines period t) fresh none (heard period t) = by_account period t in
    d.reports ∙ account_lines (heard period t) c d.turn

played_clean : Clean (status_read ∷ (played.came 0x41 ∷ (read 0x41 ++ (played.came 0x0A ∷ (read 0x0A ++ (played.came 0x0A ∷ read 0x0A))))))
unfolding Clean
played_clean = (refl, (refl, (refl, tt)))

pub text_lines_holds : TextLines
text_lines_holds = record { lines = lines_of_words; met = subst Clean (sym met.quick) played_clean }
