-- The names of registers end where the text says ` at `. Assumes nothing.
use mathlib.Core.Path.{◌≡◌, refl, sym, ap, ◌∙◌}
use mathlib.Core.Bool.{Bool, true, false, cond}
use mathlib.Core.List.{List, [], ◌∷◌, ◌++◌, append_assoc}
use Prim.Native.Nat.{ℕ, zero, suc, ◌+◌, ◌-◌, ◌*◌, ◌/◌, ◌<◌, ◌≤◌}
use native.Mathlib.Omega.{arith}
use lib.Dec.{eqb, ltb}
use lib.ListN.{length, get_or, length-append}
use borrow.Author.Tests.{eq-eqb, ne_eqb, ltb-true, ltb-false, eqb-false}
use Rattle.qsm.specs.model.Map.{decode}
use Rattle.qsm.specs.declared.map.OwnWord.{OwnWord}
use Rattle.qsm.specs.declared.map.OwnWord.TheVariants.{Qsmcr, QilrQivr, Portqs, PqsparDdrqs}
use Rattle.qsm.specs.declared.map.SerialWord.{SerialWord}
use Rattle.qsm.specs.declared.map.SerialWord.TheVariants.{Sccr0, Sccr1, Scsr, Scdr}
use Rattle.qsm.specs.declared.map.QueueWord.{QueueWord}
use Rattle.qsm.specs.declared.map.QueueWord.TheVariants.{Spcr0, Spcr1, Spcr2, Spcr3Spsr, Receive, Transmit, Command}
use Rattle.qsm.specs.declared.map.Place.{Place}
use Rattle.qsm.specs.declared.map.Place.TheVariants.{Own, Serial, Queue, Hole}
use Rattle.text.specs.Digits.{ascii, decimal, decimal_digit}
use Rattle.text.specs.Register.{part_of, pair, own, serial, command, queue, register, registers}
use Rattle.text.specs.declared.register.Part.{Part}
use Rattle.text.specs.declared.register.Part.TheVariants.{Upper, Lower, Whole}
use Rattle.text.proofs.Decimal.{decimal_none, decimal_one, decimal_more}
use Rattle.tool_assemble.specs.Names.{name_from, begins, is_name}
use Rattle.claims_assembling.proofs.Steps.{not_blank}
use Rattle.claims_assembling.proofs.Digits.{Digit, decimal_first}

-- Bytes that a name goes on over: no blank, no comma, no number sign.
solid_step : (n b : ℕ) (t : List ℕ) → 45 ≤ b → name_from n (b ∷ t) ≡ name_from (suc n) t
unfolding name_from
solid_step n b t h = rw (not_blank b (omega arith), ne_eqb b 44 (λ e. omega arith), ne_eqb b 35 (λ e. omega arith))

-- A blank within a name: what follows is a letter or a digit, and not the word `at`.
blank_step : (n b : ℕ) (t : List ℕ) → 45 ≤ b → (b ≡ 97 → ⊥) → name_from n (32 ∷ b ∷ t) ≡ name_from (suc n) (b ∷ t)
unfolding name_from
blank_step n b t h other =
    rw (ne_eqb b 0 (λ e. omega arith), ne_eqb b 35 (λ e. omega arith), not_blank b (omega arith), ne_eqb b 97 other)

-- ---- decimal numbers in names

digits_step : (k d n : ℕ) (r : List ℕ) (first : Bool) → ltb d 10 ≡ first →
    name_from n (decimal k (d / 10) ++ (decimal_digit d ∷ r)) ≡ name_from (n + length (decimal k (d / 10))) (decimal_digit d ∷ r) →
    name_from n (decimal (suc k) d ++ r) ≡ name_from (n + length (decimal (suc k) d)) r
digits_step k d n r true is before =
    let more : n + 1 ≡ suc n = omega arith in
    rw (decimal_one (suc k) d (omega arith) (ltb-true d 10 is), more) (solid_step n (decimal_digit d) r (omega arith))
digits_step k d n r false is before =
    let less : suc k - 1 ≡ k = omega arith in
    let more : n + (length (decimal k (d / 10)) + 1) ≡ suc (n + length (decimal k (d / 10))) = omega arith in
    rw (decimal_more (suc k) d (omega arith) (ltb-false d 10 is), less, append_assoc (decimal k (d / 10)) (decimal_digit d ∷ []) r, length-append (decimal k (d / 10)) (decimal_digit d ∷ []), more, before)
    (solid_step (n + length (decimal k (d / 10))) (decimal_digit d) r (omega arith))

digits_name : (k d n : ℕ) (r : List ℕ) → name_from n (decimal k d ++ r) ≡ name_from (n + length (decimal k d)) r
digits_name zero d n r = let same : n + 0 ≡ n = omega arith in rw (decimal_none, same)
digits_name (suc k) d n r = digits_step k d n r (ltb d 10) refl (digits_name k (d / 10) n (decimal_digit d ∷ r))

-- ---- names of which each byte goes on, whatever follows

abbrev Goes : List ℕ → Type 0
Goes s = (n : ℕ) (r : List ℕ) → name_from n (s ++ r) ≡ name_from (n + length s) r

goes_append : (s t : List ℕ) → Goes s → Goes t → Goes (s ++ t)
goes_append s t g h n r =
    let sum : n + (length s + length t) ≡ n + length s + length t = omega arith in
    rw (append_assoc s t r, length-append s t, sum) (g n (t ++ r) ∙ h (n + length s) r)

goes_byte : (b : ℕ) → 45 ≤ b → Goes (b ∷ [])
goes_byte b h n r = let more : n + 1 ≡ suc n = omega arith in rw more (solid_step n b r h)

-- A word of letters, digits and strokes.
abbrev word : List ℕ → Bool
word [] = true
word (b ∷ w) = cond (ltb 44 b) (word w) false

holds_both : (p q : Bool) → cond p q false ≡ true → (p ≡ true) × (q ≡ true)
holds_both true q h = (refl, h)
holds_both false q h = let z : ◌≡◌ {A = ℕ} 0 1 = cc in absurd (omega arith)

goes_word : (w : List ℕ) → word w ≡ true → Goes w
goes_word [] h n r = let same : n + 0 ≡ n = omega arith in rw same
goes_word (b ∷ w) h n r =
    let parts = holds_both (ltb 44 b) (word w) h in
    let above : 44 < b = ltb-true 44 b parts.0 in
    let more : n + suc (length w) ≡ suc n + length w = omega arith in
    solid_step n b (w ++ r) (omega arith) ∙ goes_word w parts.1 (suc n) r ∙ ap (λ (m : ℕ). name_from m r) (sym more)

-- ---- the names of `text`

goes_decimal : (k d : ℕ) → Goes (decimal k d)
goes_decimal k d n r = digits_name k d n r

goes_pair : (p : Part) (s t : List ℕ) → Goes s → Goes t → Goes (pair p s t)
goes_pair Upper s t g h = g
goes_pair Lower s t g h = h
goes_pair Whole s t g h = goes_append (s ++ ascii "/") t (goes_append s (ascii "/") g (goes_word (ascii "/") refl)) h

goes_own : (p : Part) (w : OwnWord) → Goes (own p w)
goes_own p Qsmcr = goes_word (ascii "QSMCR") refl
goes_own p QilrQivr = goes_pair p (ascii "QILR") (ascii "QIVR") (goes_word (ascii "QILR") refl) (goes_word (ascii "QIVR") refl)
goes_own p Portqs = goes_word (ascii "PORTQS") refl
goes_own p PqsparDdrqs = goes_pair p (ascii "PQSPAR") (ascii "DDRQS") (goes_word (ascii "PQSPAR") refl) (goes_word (ascii "DDRQS") refl)

goes_serial : (w : SerialWord) → Goes (serial w)
goes_serial Sccr0 = goes_word (ascii "SCCR0") refl
goes_serial Sccr1 = goes_word (ascii "SCCR1") refl
goes_serial Scsr = goes_word (ascii "SCSR") refl
goes_serial Scdr = goes_word (ascii "SCDR") refl

-- The words before a number.
module _ (w : List ℕ) (is : word w ≡ true) (x : List ℕ) (first : (r : List ℕ) → Digit (get_or (x ++ r) 0 0)) (g : Goes x) where
  entry : (n : ℕ) (t : List ℕ) → Digit (get_or t 0 0) → name_from n (32 ∷ t) ≡ name_from (suc n) t
  entry n [] h = absurd (omega arith)
  entry n (b ∷ t) h = blank_step n b t (omega arith) (λ e. omega arith)

  ram : Goes (ascii " RAM" ++ 32 ∷ x)
  ram n r =
      blank_step n 82 (ascii "AM" ++ 32 ∷ (x ++ r)) (omega arith) (λ e. omega arith)
      ∙ goes_word (ascii "RAM") refl (suc n) (32 ∷ (x ++ r))
      ∙ entry (suc n + 3) (x ++ r) (first r)
      ∙ g (suc (suc n + 3)) r
      ∙ ap (λ (m : ℕ). name_from m r) (omega arith)

  goes_ram : Goes (w ++ (ascii " RAM" ++ 32 ∷ x))
  goes_ram = goes_append w (ascii " RAM" ++ 32 ∷ x) (goes_word w is) ram

pair_first : (p : Part) (k m : ℕ) (r : List ℕ) → Digit (get_or (pair p (decimal 3 k) (decimal 3 m) ++ r) 0 0)
pair_first Upper k m r = decimal_first 3 k r (omega arith)
pair_first Lower k m r = decimal_first 3 m r (omega arith)
pair_first Whole k m r =
    rw (append_assoc (decimal 3 k ++ ascii "/") (decimal 3 m) r, append_assoc (decimal 3 k) (ascii "/") (decimal 3 m ++ r))
    (decimal_first 3 k (ascii "/" ++ (decimal 3 m ++ r)) (omega arith))

goes_command : (p : Part) (k : ℕ) → Goes (command p k)
unfolding command
goes_command p k =
    goes_ram (ascii "command") refl (pair p (decimal 3 (k * 2)) (decimal 3 (k * 2 + 1))) (pair_first p (k * 2) (k * 2 + 1))
    (goes_pair p (decimal 3 (k * 2)) (decimal 3 (k * 2 + 1)) (goes_decimal 3 (k * 2)) (goes_decimal 3 (k * 2 + 1)))

goes_queue : (p : Part) (w : QueueWord) → Goes (queue p w)
goes_queue p Spcr0 = goes_word (ascii "SPCR0") refl
goes_queue p Spcr1 = goes_word (ascii "SPCR1") refl
goes_queue p Spcr2 = goes_word (ascii "SPCR2") refl
goes_queue p Spcr3Spsr = goes_pair p (ascii "SPCR3") (ascii "SPSR") (goes_word (ascii "SPCR3") refl) (goes_word (ascii "SPSR") refl)
goes_queue p (Receive k) = goes_ram (ascii "receive") refl (decimal 3 k) (λ r. decimal_first 3 k r (omega arith)) (goes_decimal 3 k)
goes_queue p (Transmit k) = goes_ram (ascii "transmit") refl (decimal 3 k) (λ r. decimal_first 3 k r (omega arith)) (goes_decimal 3 k)
goes_queue p (Command k) = goes_command p k

goes_register : (p : Part) (w : Place) → Goes (register p w)
unfolding register
goes_register p (Own w) = goes_own p w
goes_register p (Serial w) = goes_serial w
goes_register p (Queue w) = goes_queue p w
goes_register p Hole = goes_word (ascii "unmapped") refl

-- ---- what a name begins with: a letter that is no a

abbrev Begins : List ℕ → Type 0
Begins s = (r : List ℕ) → (ltb 44 (get_or (s ++ r) 0 0) ≡ true) × (eqb (get_or (s ++ r) 0 0) 97 ≡ false)

begins_own : (p : Part) (w : OwnWord) → Begins (own p w)
begins_own p Qsmcr r = (refl, refl)
begins_own Upper QilrQivr r = (refl, refl)
begins_own Lower QilrQivr r = (refl, refl)
begins_own Whole QilrQivr r = (refl, refl)
begins_own p Portqs r = (refl, refl)
begins_own Upper PqsparDdrqs r = (refl, refl)
begins_own Lower PqsparDdrqs r = (refl, refl)
begins_own Whole PqsparDdrqs r = (refl, refl)

begins_serial : (w : SerialWord) → Begins (serial w)
begins_serial Sccr0 r = (refl, refl)
begins_serial Sccr1 r = (refl, refl)
begins_serial Scsr r = (refl, refl)
begins_serial Scdr r = (refl, refl)

begins_queue : (p : Part) (w : QueueWord) → Begins (queue p w)
unfolding command
begins_queue p Spcr0 r = (refl, refl)
begins_queue p Spcr1 r = (refl, refl)
begins_queue p Spcr2 r = (refl, refl)
begins_queue Upper Spcr3Spsr r = (refl, refl)
begins_queue Lower Spcr3Spsr r = (refl, refl)
begins_queue Whole Spcr3Spsr r = (refl, refl)
begins_queue p (Receive k) r = (refl, refl)
begins_queue p (Transmit k) r = (refl, refl)
begins_queue p (Command k) r = (refl, refl)

begins_register : (p : Part) (w : Place) → Begins (register p w)
unfolding register
begins_register p (Own w) r = begins_own p w r
begins_register p (Serial w) r = begins_serial w r
begins_register p (Queue w) r = begins_queue p w r
begins_register p Hole r = (refl, refl)

-- ---- a long's two names

letter_step : (n : ℕ) (t : List ℕ) → (ltb 44 (get_or t 0 0) ≡ true) × (eqb (get_or t 0 0) 97 ≡ false) → name_from n (32 ∷ t) ≡ name_from (suc n) t
letter_step n [] h = let above : 44 < 0 = ltb-true 44 0 h.0 in absurd (omega arith)
letter_step n (b ∷ t) h = let above : 44 < b = ltb-true 44 b h.0 in blank_step n b t (omega arith) (eqb-false b 97 h.1)

and_step : (n : ℕ) (t : List ℕ) → name_from n (32 ∷ 97 ∷ 110 ∷ t) ≡ name_from (suc n) (97 ∷ 110 ∷ t)
unfolding name_from
and_step n t = refl

goes_and : (s : List ℕ) → Begins s → Goes s → Goes (ascii " and " ++ s)
goes_and s b g n r =
    and_step n (100 ∷ 32 ∷ (s ++ r))
    ∙ goes_word (ascii "and") refl (suc n) (32 ∷ (s ++ r))
    ∙ letter_step (suc n + 3) (s ++ r) (b r)
    ∙ g (suc (suc n + 3)) r
    ∙ ap (λ (m : ℕ). name_from m r) (omega arith)

goes_second : (second : Bool) (w : Place) → Goes (cond second (ascii " and " ++ register Whole w) [])
goes_second true w = goes_and (register Whole w) (begins_register Whole w) (goes_register Whole w)
goes_second false w = goes_word [] refl

goes_registers : (width offset : ℕ) → Goes (registers width offset)
unfolding registers
goes_registers width offset =
    goes_append (register (part_of width offset) (decode offset)) _
    (goes_register (part_of width offset) (decode offset))
    (goes_second (eqb width 4) (decode (offset + 2)))

pub registers_first : (width offset : ℕ) (r : List ℕ) → 33 ≤ get_or (registers width offset ++ r) 0 0
unfolding registers
registers_first width offset r =
    let s = register (part_of width offset) (decode offset) in
    let t = cond (eqb width 4) (ascii " and " ++ register Whole (decode (offset + 2))) [] in
    rw (append_assoc s t r) (omega (arith, ltb-true 44 (get_or (s ++ (t ++ r)) 0 0) (begins_register (part_of width offset) (decode offset) (t ++ r)).0))

-- ---- the names of an access, and that they are its own

pub name_length_holds : (width offset : ℕ) (r : List ℕ) → name_from 0 (registers width offset ++ (32 ∷ 97 ∷ 116 ∷ 32 ∷ r)) ≡ length (registers width offset)
unfolding name_from
name_length_holds width offset r = goes_registers width offset 0 (32 ∷ 97 ∷ 116 ∷ 32 ∷ r) ∙ omega arith

begins_self : (s r : List ℕ) → begins s (s ++ r) ≡ true
unfolding begins
begins_self [] r = refl
begins_self (b ∷ s) r = rw (eq-eqb b b refl) (begins_self s r)

pub own_name : (width offset : ℕ) (r : List ℕ) → is_name width offset (registers width offset ++ r) (length (registers width offset)) ≡ true
unfolding is_name
own_name width offset r = rw (eq-eqb (length (registers width offset)) (length (registers width offset)) refl) (begins_self (registers width offset) r)
