-- A line whose last word is delivered is reported as its words came. Assumes nothing.
use mathlib.Core.Path.{◌≡◌, refl, ap, sym, subst, ◌∙◌}
use mathlib.Core.Bool.{Bool, true, false, cond, not, ◌&&◌, false≢true}
use mathlib.Core.List.{List, [], ◌∷◌, ◌++◌, append_assoc, append-nil}
use Prim.Native.Nat.{ℕ, suc, ◌+◌, ◌%◌}
use native.Mathlib.Omega.{arith}
use lib.Dec.{ltb}
use lib.ListN.{length, length-append}
use Rattle.tool_lines.specs.Gather.{Report, handed, most, too_long, overrun}
use Rattle.tool_lines.specs.Replay.{lines}
use Rattle.claims_lines.specs.Happened.{Damage, Happening, frame_lost, word_came, status_read, word_delivered, was_reset}
use Rattle.claims_lines.specs.Segment.{ends, closes, begins_after, inside, letters_of, or_else, damaged, cause_from, cause_of, report_of, ended_in, numbered}
use Rattle.claims_lines.specs.Claims.{heard, waiting, Reported, AllReported, HandedOver}
use Rattle.claims_lines.proofs.Account.{Account, fresh, closing, growing, touched, counted, report, next, tells, account, accounted}
use Rattle.claims_lines.proofs.Gathering.{or_none}
use Rattle.claims_lines.proofs.Causes.{or_joined, ended_joined, sound_damage, whole_none}
use Rattle.claims_lines.proofs.Lines.{by_account, came_number}

account_joined : (h k : List Happening) (a : Account) → account a (h ++ k) ≡ account a h ++ account (accounted a h) k
unfolding account accounted
account_joined [] k a = refl
account_joined (e ∷ h) k a =
    ap (λ (rs : List Report). tells a e ++ rs) (account_joined h k (next a e))
    ∙ sym (append_assoc (tells a e) (account (next a e) h) (account (accounted (next a e) h) k))

accounted_joined : (h k : List Happening) (a : Account) → accounted a (h ++ k) ≡ accounted (accounted a h) k
unfolding accounted
accounted_joined [] k a = refl
accounted_joined (e ∷ h) k a = accounted_joined h k (next a e)

-- How many lines ended.
add_next : (b : Bool) (n k : ℕ) → cond b (suc n) n + k ≡ n + cond b (suc k) k
add_next true n k = omega arith
add_next false n k = refl

delivered_number : (b : Bool) (a : Account) → (cond b (counted a) a).number ≡ cond b (suc a.number) a.number
delivered_number true a = refl
delivered_number false a = refl

number_after : (h : List Happening) (a : Account) → (accounted a h).number ≡ a.number + ended_in h
unfolding accounted
number_after [] a = omega arith
number_after (frame_lost raises ∷ h) a = number_after h (next a (frame_lost raises))
number_after (word_came w d ∷ h) a = number_after h (next a (word_came w d)) ∙ rw (came_number a w d)
number_after (status_read ∷ h) a = number_after h a
number_after (word_delivered w ∷ h) a =
    number_after h (next a (word_delivered w)) ∙ rw (delivered_number (ends w) a) (add_next (ends w) a.number (ended_in h))
number_after (was_reset ∷ h) a = number_after h (next a was_reset)

-- Where a line begins there is neither cause nor letter.
record Begun (a : Account) : Type 0 where
  cause : a.cause ≡ 0
  letters : a.letters ≡ []

begun_one : (a : Account) (e : Happening) → closes e ≡ true → Begun (next a e)
begun_one a (frame_lost raises) c = absurd (false≢true c)
begun_one a (word_came w d) c = rw c (record { cause = refl; letters = refl })
begun_one a status_read c = absurd (false≢true c)
begun_one a (word_delivered w) c = absurd (false≢true c)
begun_one a was_reset c = record { cause = refl; letters = refl }

begun_after : (e : Happening) (h : List Happening) (a : Account) → begins_after (e ∷ h) ≡ true → Begun (accounted a (e ∷ h))
unfolding accounted
begun_after e [] a c = begun_one a e c
begun_after e (f ∷ h) a c = begun_after f h (next a e) c

begun : (h : List Happening) → begins_after h ≡ true → Begun (accounted fresh h)
unfolding accounted
begun [] c = record { cause = refl; letters = refl }
begun (e ∷ h) c = begun_after e h fresh c

-- Within a line they grow.
record Grown (a b : Account) (h : List Happening) : Type 0 where
  cause : b.cause ≡ or_else a.cause (cause_from (length a.letters) h)
  letters : b.letters ≡ a.letters ++ letters_of h

not_closing : (b p : Bool) → not b && p ≡ true → (b ≡ false) × (p ≡ true)
not_closing true p e = absurd (false≢true e)
not_closing false p e = (refl, e)

grown_lost : (a b : Account) (raises : Bool) (h : List Happening) → Grown (touched a) b h → Grown a b (frame_lost raises ∷ h)
grown_lost a b raises h g =
    record { cause = g.cause ∙ or_joined a.cause overrun (cause_from (length a.letters) h); letters = g.letters }

grown_word : (a b : Account) (w : ℕ) (d : Damage) (h : List Happening) → Grown (growing a (w % 128) d) b h → Grown a b (word_came w d ∷ h)
grown_word a b w d h g =
    let long : ℕ = cond (ltb (length a.letters) most) 0 too_long in
    let n : length (a.letters ++ (w % 128 ∷ [])) ≡ suc (length a.letters) = omega (arith, length-append a.letters (w % 128 ∷ [])) in
    let r : ℕ = cause_from (suc (length a.letters)) h in
    record {
      cause =
          g.cause
          ∙ rw n (or_joined (or_else a.cause (damaged d)) long r ∙ or_joined a.cause (damaged d) (or_else long r));
      letters = g.letters ∙ append_assoc a.letters (w % 128 ∷ []) (letters_of h);
    }

grown_same : (a c b : Account) (h : List Happening) → c.cause ≡ a.cause → c.letters ≡ a.letters → Grown c b h → Grown a b h
grown_same a c b h e f g =
    record { cause = g.cause ∙ rw (e, f); letters = g.letters ∙ rw f }

same_cause : (b : Bool) (a : Account) → (cond b (counted a) a).cause ≡ a.cause
same_cause true a = refl
same_cause false a = refl

same_letters : (b : Bool) (a : Account) → (cond b (counted a) a).letters ≡ a.letters
same_letters true a = refl
same_letters false a = refl

grown : (h : List Happening) (a : Account) → inside h ≡ true → Grown a (accounted a h) h
unfolding accounted
grown [] a i = record { cause = sym (or_none a.cause); letters = sym (append-nil a.letters) }
grown (frame_lost raises ∷ h) a i = grown_lost a _ raises h (grown h (touched a) i)
grown (word_came w d ∷ h) a i =
    let n = not_closing (ends w) (inside h) i in
    rw n.0 (grown_word a (accounted (growing a (w % 128) d) h) w d h (grown h (growing a (w % 128) d) n.1))
grown (status_read ∷ h) a i = let g : Grown a (accounted a h) h = grown h a i in record { cause = g.cause; letters = g.letters }
grown (word_delivered w ∷ h) a i =
    let c : Account = next a (word_delivered w) in
    let g : Grown a (accounted c h) h = grown_same a c (accounted c h) h (same_cause (ends w) a) (same_letters (ends w) a) (grown h c i) in
    record { cause = g.cause; letters = g.letters }
grown (was_reset ∷ h) a i = absurd (false≢true i)

-- A line that is closed waits.
record Waits (a b : Account) : Type 0 where
  cause : b.closed_cause ≡ a.closed_cause
  letters : b.closed_letters ≡ a.closed_letters
  number : b.number ≡ a.number

waited : (h : List Happening) (a : Account) → waiting h ≡ true → Waits a (accounted a h)
unfolding accounted
waited [] a e = record { cause = refl; letters = refl; number = refl }
waited (frame_lost raises ∷ h) a e =
    let r : Waits (touched a) (accounted (touched a) h) = waited h (touched a) e in
    record { cause = r.cause; letters = r.letters; number = r.number }
waited (word_came w d ∷ h) a e = absurd (false≢true e)
waited (status_read ∷ h) a e = waited h a e
waited (word_delivered w ∷ h) a e = absurd (false≢true e)
waited (was_reset ∷ h) a e = absurd (false≢true e)

module _ (before body : List Happening) (w : ℕ) (d : Damage) (between rest : List Happening)
    (begins : begins_after before ≡ true) (inner : inside body ≡ true) (end : ends w ≡ true) (waits : waiting between ≡ true) where
  abbrev a₁ : Account
  a₁ = accounted fresh before

  abbrev a₂ : Account
  a₂ = accounted a₁ body

  abbrev a₃ : Account
  a₃ = closing a₂ d

  abbrev a₄ : Account
  a₄ = accounted a₃ between

  abbrev number : ℕ
  number = ended_in (before ++ body)

  two_numbers : a₂.number ≡ number
  two_numbers =
      number_after body a₁ ∙ rw (number_after before fresh) (omega (arith, ended_joined before body))

  two_cause : a₂.cause ≡ cause_from 0 body
  two_cause = (grown body a₁ inner).cause ∙ rw ((begun before begins).cause, (begun before begins).letters)

  two_letters : a₂.letters ≡ letters_of body
  two_letters = (grown body a₁ inner).letters ∙ rw (begun before begins).letters

  reports_it : report a₄ ≡ report_of (numbered number) body d
  reports_it =
      let k : Waits a₃ a₄ = waited between a₃ waits in
      rw (k.cause, k.letters, k.number, two_cause, two_letters, two_numbers)

  came_closes : next a₂ (word_came w d) ≡ a₃
  came_closes = rw end

  ends_told : account a₄ (word_delivered w ∷ rest) ≡ report a₄ ∷ account (counted a₄) rest
  unfolding account
  ends_told = rw end

  body_told : account a₂ (word_came w d ∷ (between ++ (word_delivered w ∷ rest)))
      ≡ account a₃ between ++ (report a₄ ∷ account (counted a₄) rest)
  unfolding account
  body_told =
      ap (λ (b : Account). account b (between ++ (word_delivered w ∷ rest))) came_closes
      ∙ account_joined between (word_delivered w ∷ rest) a₃ ∙ ap (λ (rs : List Report). account a₃ between ++ rs) ends_told

  abbrev first : List Report
  first = account fresh before ++ (account a₁ body ++ account a₃ between)

  all_told : account fresh (before ++ (body ++ (word_came w d ∷ (between ++ (word_delivered w ∷ rest)))))
      ≡ first ++ (report a₄ ∷ account (counted a₄) rest)
  all_told =
      account_joined before (body ++ (word_came w d ∷ (between ++ (word_delivered w ∷ rest)))) fresh
      ∙ ap (λ (rs : List Report). account fresh before ++ rs)
      (account_joined body (word_came w d ∷ (between ++ (word_delivered w ∷ rest))) a₁ ∙ ap (λ (rs : List Report). account a₁ body ++ rs) body_told
      ∙ sym (append_assoc (account a₁ body) (account a₃ between) (report a₄ ∷ account (counted a₄) rest)))
      ∙ sym (append_assoc (account fresh before) (account a₁ body ++ account a₃ between) (report a₄ ∷ account (counted a₄) rest))

  reported : Reported (report_of (numbered number) body d) (account fresh (before ++ (body ++ (word_came w d ∷ (between ++ (word_delivered w ∷ rest))))))
  reported =
      record {
        earlier = first;
        later = account (counted a₄) rest;
        split = all_told ∙ ap (λ (r : Report). first ++ (r ∷ account (counted a₄) rest)) reports_it;
      }

pub all_reported_holds : AllReported
all_reported_holds period t line d =
    let h : List Happening = line.before ++ (line.body ++ (word_came line.last line.damage ∷ (d.between ++ (word_delivered line.last ∷ d.rest)))) in
    let z : heard period t ≡ h =
    line.split
    ∙ ap (λ (k : List Happening). line.before ++ (line.body ++ (word_came line.last line.damage ∷ k))) d.then in
    subst (Reported (report_of (numbered (ended_in (line.before ++ line.body))) line.body line.damage))
    (sym ((by_account period t).reports ∙ ap (account fresh) z))
    (reported line.before line.body line.last line.damage d.between d.rest line.begins line.inner line.end d.waits)

pub handed_over_holds : HandedOver
handed_over_holds period t line d whole sound short =
    let n : ℕ = numbered (ended_in (line.before ++ line.body)) in
    let c : cause_of line.body line.damage ≡ 0 = rw (whole_none 0 line.body whole (omega arith), sound_damage line.damage sound) in
    let z : report_of n line.body line.damage ≡ handed n (letters_of line.body) = rw c in
    subst (λ (r : Report). Reported r (lines period t)) z (all_reported_holds period t line d)
