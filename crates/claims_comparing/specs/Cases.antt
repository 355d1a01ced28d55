-- Document 02, L2 and L9: cases in bytes, each computed. A log is told by the places of its bytes that are not 0.
use Rattle.std.specs.Prelude.{◌≡◌, true, false, List, [], ◌∷◌, ◌++◌, ℕ, zero, suc, take, replicate}
use Rattle.tool_compare.specs.Compare.{compared_logs}

-- An answer of zeros behind its kind.
abbrev pub ten : List ℕ
ten = 0x10 ∷ replicate 9 0

abbrev pub eighteen : List ℕ
eighteen = 0x11 ∷ replicate 17 0

-- FF for the byte at a place.
abbrev pub changed : ℕ → List ℕ → List ℕ
changed n [] = []
changed zero (x ∷ xs) = 0xFF ∷ xs
changed (suc n) (x ∷ xs) = x ∷ changed n xs

-- What is left of a list of two numbers where the second answer has another byte at a place.
abbrev pub told : List ℕ → ℕ → List ℕ
told a n = (compared_logs (a ++ a) (a ++ changed n a) (9 ∷ 9 ∷ [])).list

pub record Sums : Type 0 where
  pub plain_1 : told ten 1 ≡ 1 ∷ 2 ∷ []
  pub plain_2 : told ten 2 ≡ 1 ∷ 4 ∷ []
  pub plain_3 : told ten 3 ≡ 1 ∷ 4 ∷ []
  pub plain_4 : told ten 4 ≡ 1 ∷ 4 ∷ []
  pub plain_5 : told ten 5 ≡ 1 ∷ 4 ∷ []
  pub plain_6 : told ten 6 ≡ 1 ∷ 8 ∷ []
  pub plain_7 : told ten 7 ≡ 1 ∷ 16 ∷ []
  pub plain_8 : told ten 8 ≡ 1 ∷ 32 ∷ []
  pub plain_9 : told ten 9 ≡ 1 ∷ 64 ∷ []
  pub clocked_1 : told eighteen 1 ≡ 1 ∷ 2 ∷ []
  pub clocked_2 : told eighteen 2 ≡ 1 ∷ 4 ∷ []
  pub clocked_3 : told eighteen 3 ≡ 1 ∷ 4 ∷ []
  pub clocked_4 : told eighteen 4 ≡ 1 ∷ 4 ∷ []
  pub clocked_5 : told eighteen 5 ≡ 1 ∷ 4 ∷ []
  pub clocked_6 : told eighteen 6 ≡ 1 ∷ 8 ∷ []
  pub clocked_7 : told eighteen 7 ≡ 1 ∷ 16 ∷ []
  pub clocked_8 : told eighteen 8 ≡ 1 ∷ 32 ∷ []
  pub clocked_9 : told eighteen 9 ≡ 1 ∷ 64 ∷ []
  pub clocked_10 : told eighteen 10 ≡ 1 ∷ 128 ∷ []
  pub clocked_11 : told eighteen 11 ≡ 1 ∷ 128 ∷ []
  pub clocked_12 : told eighteen 12 ≡ 1 ∷ 128 ∷ []
  pub clocked_13 : told eighteen 13 ≡ 1 ∷ 128 ∷ []
  pub clocked_14 : told eighteen 14 ≡ 1 ∷ 128 ∷ []
  pub clocked_15 : told eighteen 15 ≡ 1 ∷ 128 ∷ []
  pub clocked_16 : told eighteen 16 ≡ 1 ∷ 128 ∷ []
  pub clocked_17 : told eighteen 17 ≡ 1 ∷ 128 ∷ []
  -- All but the kind, which is 5.
  pub plain_all : (compared_logs ten (0x10 ∷ replicate 9 1) (9 ∷ 9 ∷ [])).list ≡ 0 ∷ 126 ∷ []
  pub clocked_all : (compared_logs eighteen (0x11 ∷ replicate 17 1) (9 ∷ 9 ∷ [])).list ≡ 0 ∷ 254 ∷ []

pub record Stretches : Type 0 where
  -- Equal lengths: an empty stretch of the first.
  pub equal : compared_logs ten ten [] ≡ record { list = []; count = 0; refusal = 0; second = false; start = 10; surplus = [] }
  pub nothing : compared_logs [] [] [] ≡ record { list = []; count = 0; refusal = 0; second = false; start = 0; surplus = [] }
  -- The longer log past the common end, an answer that differs or not.
  pub of_first : compared_logs (ten ++ changed 1 ten) ten [] ≡ record { list = []; count = 0; refusal = 0; second = false; start = 10; surplus = changed 1 ten }
  pub of_second : compared_logs ten (changed 9 ten ++ ten) (9 ∷ 9 ∷ []) ≡ record { list = 0 ∷ 64 ∷ []; count = 1; refusal = 0; second = true; start = 10; surplus = ten }
  pub all_of_second : compared_logs [] eighteen [] ≡ record { list = []; count = 0; refusal = 0; second = true; start = 0; surplus = eighteen }

-- The refusal of two logs and a lent list.
abbrev pub refusal : List ℕ → List ℕ → List ℕ → ℕ
refusal a b lent = (compared_logs a b lent).refusal

-- Two hold: 5, 6, 7.
pub record Order : Type 0 where
  pub other_kind_holds : refusal ten eighteen [] ≡ 5
  pub no_kind : refusal (0x12 ∷ []) [] [] ≡ 5
  pub later_kind : refusal (ten ++ eighteen) ten [] ≡ 5
  pub cut_10 : refusal (ten ++ (0x10 ∷ [])) ten [] ≡ 6
  pub cut_11 : refusal eighteen (take 17 eighteen) [] ≡ 6
  pub ten_of_11 : refusal (take 10 eighteen) eighteen [] ≡ 6
  pub too_short : refusal ten (changed 1 ten) (9 ∷ []) ≡ 7
  pub long_enough : refusal ten (changed 1 ten) (9 ∷ 9 ∷ []) ≡ 0
  pub two_too_short : refusal (ten ++ ten) (changed 1 ten ++ changed 2 ten) (9 ∷ 9 ∷ 9 ∷ []) ≡ 7
  pub five_six : refusal (ten ++ (0x11 ∷ [])) ten [] ≡ 5
  pub five_seven : refusal (ten ++ eighteen) (changed 1 ten) [] ≡ 5
  pub six_seven : refusal (ten ++ (0x10 ∷ [])) (changed 1 ten) [] ≡ 6
  -- Nothing is told: count 0, the list as it was, an empty stretch of the first.
  pub refused : compared_logs ten (changed 1 ten ++ ten) (9 ∷ []) ≡ record { list = 9 ∷ []; count = 0; refusal = 7; second = false; start = 10; surplus = [] }

pub record Cases : Type 0 where
  pub sums : Sums
  pub stretches : Stretches
  pub order : Order
