-- Document 02, L12: logs of K12's trace, computed: a reset, and a supervisor's read of SCSR.
use Rattle.std.specs.Prelude.{◌≡◌, List, [], ◌∷◌, ◌++◌, ℕ, zero, suc, take}
use Rattle.answers.specs.declared.Field.TheVariants.{Kind, Refusal, Value, Levels, Mask, Level, Vector, Clock}
use Rattle.tool_judge.specs.Judge.{judged}
use Rattle.tool_judge.specs.Numbers.{in_numbers}
use Rattle.tool_judge.specs.declared.numbers.Judgement.{Judgement}
use Rattle.tool_judge.specs.Verdict.{accept, reject}
use Rattle.claims_judging.specs.Verdicts.{stop_of}

abbrev pub trace : List ℕ
trace = 0x01 ∷ 0x03 ∷ 0x82 ∷ 0x00 ∷ 0x0C ∷ []

abbrev pub log : List ℕ
log =
    0x11 ∷ 0x00 ∷ 0x00 ∷ 0x00 ∷ 0x00 ∷ 0x00 ∷ 0x00 ∷ 0x00 ∷ 0x00 ∷ 0x00 ∷
    0x00 ∷ 0x00 ∷ 0x00 ∷ 0x00 ∷ 0x00 ∷ 0x00 ∷ 0x00 ∷ 0x00 ∷
    0x11 ∷ 0x00 ∷ 0x00 ∷ 0x00 ∷ 0x01 ∷ 0x80 ∷ 0x00 ∷ 0x00 ∷ 0x00 ∷ 0x00 ∷
    0x00 ∷ 0x00 ∷ 0x00 ∷ 0x00 ∷ 0x00 ∷ 0x00 ∷ 0x00 ∷ 0x00 ∷ []

-- The log with FF for the byte at a place, which none of its bytes is.
abbrev pub changed : ℕ → List ℕ → List ℕ
changed n [] = []
changed zero (x ∷ xs) = 0xFF ∷ xs
changed (suc n) (x ∷ xs) = x ∷ changed n xs

abbrev pub unknown : List ℕ
unknown = trace ++ (0x77 ∷ [])

abbrev pub cut : List ℕ
cut = trace ++ (0x03 ∷ [])

pub record Cases : Type 0 where
  pub right : (judged trace log).verdict ≡ accept
  pub ends : stop_of (judged trace log) ≡ 0
  -- Each byte of the second answer.
  pub kind : (judged trace (changed 18 log)).verdict ≡ reject 1 Kind
  pub refusal : (judged trace (changed 19 log)).verdict ≡ reject 1 Refusal
  pub value_1 : (judged trace (changed 20 log)).verdict ≡ reject 1 Value
  pub value_2 : (judged trace (changed 21 log)).verdict ≡ reject 1 Value
  pub value_3 : (judged trace (changed 22 log)).verdict ≡ reject 1 Value
  pub value_4 : (judged trace (changed 23 log)).verdict ≡ reject 1 Value
  pub levels : (judged trace (changed 24 log)).verdict ≡ reject 1 Levels
  pub mask : (judged trace (changed 25 log)).verdict ≡ reject 1 Mask
  pub level : (judged trace (changed 26 log)).verdict ≡ reject 1 Level
  pub vector : (judged trace (changed 27 log)).verdict ≡ reject 1 Vector
  pub clock_1 : (judged trace (changed 28 log)).verdict ≡ reject 1 Clock
  pub clock_8 : (judged trace (changed 35 log)).verdict ≡ reject 1 Clock
  -- The last byte of the first answer; two bytes wrong, in one answer and in two.
  pub first_answer : (judged trace (changed 17 log)).verdict ≡ reject 0 Clock
  pub first_field : (judged trace (changed 24 (changed 19 log))).verdict ≡ reject 1 Refusal
  pub first_of_two : (judged trace (changed 19 (changed 5 log))).verdict ≡ reject 0 Value
  -- Cut, missing, surplus: the kind, a wrong byte before the cut or not.
  pub cut_answer : (judged trace (take 35 log)).verdict ≡ reject 1 Kind
  pub wrong_and_cut : (judged trace (changed 20 (take 35 log))).verdict ≡ reject 1 Kind
  pub missing : (judged trace (take 18 log)).verdict ≡ reject 1 Kind
  pub none_at_all : (judged trace []).verdict ≡ reject 0 Kind
  pub surplus : (judged trace (log ++ (0x11 ∷ []))).verdict ≡ reject 2 Kind
  pub surplus_answer : (judged trace (log ++ take 18 log)).verdict ≡ reject 2 Kind
  -- Stops: told of a right log, and of one that is wrong before.
  pub right_before_5 : (judged unknown log).verdict ≡ accept
  pub stops_5 : stop_of (judged unknown log) ≡ 5
  pub wrong_before_5 : (judged unknown (changed 1 log)).verdict ≡ reject 0 Refusal
  pub stops_5_too : stop_of (judged unknown (changed 1 log)) ≡ 5
  pub right_before_6 : (judged cut log).verdict ≡ accept
  pub stops_6 : stop_of (judged cut (changed 1 log)) ≡ 6
  pub stops_6_short : stop_of (judged cut []) ≡ 6

-- The same in numbers, as C has them.
abbrev pub numbered : List ℕ → List ℕ → Judgement
numbered t l = in_numbers (judged t l)

pub record InNumbers : Type 0 where
  pub right : numbered unknown log ≡ record { number = 0; field = 0; stop = 5 }
  pub kind : numbered trace (changed 18 log) ≡ record { number = 1; field = 1; stop = 0 }
  pub refusal : numbered trace (changed 19 log) ≡ record { number = 1; field = 2; stop = 0 }
  pub value : numbered trace (changed 23 log) ≡ record { number = 1; field = 4; stop = 0 }
  pub levels : numbered trace (changed 24 log) ≡ record { number = 1; field = 8; stop = 0 }
  pub mask : numbered trace (changed 25 log) ≡ record { number = 1; field = 16; stop = 0 }
  pub level : numbered trace (changed 26 log) ≡ record { number = 1; field = 32; stop = 0 }
  pub vector : numbered trace (changed 27 log) ≡ record { number = 1; field = 64; stop = 0 }
  pub clock : numbered trace (changed 35 log) ≡ record { number = 1; field = 128; stop = 0 }
