-- Document 02, L6: cases in bytes, each computed.
use Rattle.std.specs.Prelude.{◌≡◌, List, [], ◌∷◌, ◌++◌, ℕ, zero, suc, length, replicate}
use Rattle.tool_editions.specs.Editions.{get, newest}
use Rattle.tool_editions.specs.Laws.{Kept, answer, after, fresh}
use Rattle.tool_editions.specs.declared.records.Edition.{Edition}
use Rattle.tool_editions.specs.declared.records.Record.TheVariants.{Added, Withdrawn}

-- An edition in which no two bytes are alike but for zeros, and its record.
abbrev pub sample : Edition
sample = record { number = 0x1234; sccr0 = 0x0567; sccr1 = 0x089A; spcr0 = 0xBC0D; spcr1 = 0xDEF0 }

abbrev pub sample_bytes : List ℕ
sample_bytes = 0x21 ∷ 0x12 ∷ 0x34 ∷ 0x05 ∷ 0x67 ∷ 0x08 ∷ 0x9A ∷ 0xBC ∷ 0x0D ∷ 0xDE ∷ 0xF0 ∷ []

-- Edition n with MSTR and without it, SPE set; and their records.
abbrev pub plain : ℕ → Edition
plain n = record { number = n; sccr0 = 0x0004; sccr1 = 0x000C; spcr0 = 0x8104; spcr1 = 0x8404 }

abbrev pub slave : ℕ → Edition
slave n = record { number = n; sccr0 = 0x0004; sccr1 = 0x000C; spcr0 = 0x0104; spcr1 = 0x8404 }

abbrev pub plain_bytes : ℕ → List ℕ
plain_bytes n = 0x21 ∷ 0 ∷ n ∷ 0x00 ∷ 0x04 ∷ 0x00 ∷ 0x0C ∷ 0x81 ∷ 0x04 ∷ 0x84 ∷ 0x04 ∷ []

abbrev pub slave_bytes : ℕ → List ℕ
slave_bytes n = 0x21 ∷ 0 ∷ n ∷ 0x00 ∷ 0x04 ∷ 0x00 ∷ 0x0C ∷ 0x01 ∷ 0x04 ∷ 0x84 ∷ 0x04 ∷ []

abbrev pub withdrawal_bytes : ℕ → List ℕ
withdrawal_bytes n = 0x22 ∷ 0 ∷ n ∷ []

-- A buffer that is used to its end, and one with so much room behind.
abbrev pub full : List ℕ → Kept
full b = record { buffer = b; used = length b }

abbrev pub roomy : ℕ → List ℕ → Kept
roomy n b = record { buffer = b ++ replicate n 0; used = length b }

-- What asking for the newest is refused with, or 0.
abbrev pub refusal : Kept → ℕ
refusal k = (newest k.buffer k.used).refusal

pub record Bytes : Type 0 where
  pub added : after (fresh (replicate 12 0xFF)) (Added sample) ≡ record { buffer = sample_bytes ++ (0xFF ∷ []); used = 11 }
  pub withdrawn :
      after (roomy 4 sample_bytes) (Withdrawn 0x1234)
      ≡ record { buffer = sample_bytes ++ (0x22 ∷ 0x12 ∷ 0x34 ∷ 0 ∷ []); used = 14 }
  pub given : get sample_bytes 11 0x1234 ≡ record { edition = sample; refusal = 0 }
  pub newest_given : newest sample_bytes 11 ≡ record { edition = sample; refusal = 0 }
  -- One byte of the number apart.
  pub other_lower : (get sample_bytes 11 0x1235).refusal ≡ 8
  pub other_upper : (get sample_bytes 11 0x0234).refusal ≡ 8

-- An edition 1 with these settings: what adding it answers.
abbrev pub tried : ℕ → ℕ → ℕ → ℕ → ℕ
tried sccr0 sccr1 spcr0 spcr1 =
    answer (fresh (replicate 11 0)) (Added (record { number = 1; sccr0 = sccr0; sccr1 = sccr1; spcr0 = spcr0; spcr1 = spcr1 }))

-- 3: LOOPS, WOMS, SBK; WOMQ, BITS 1 and 7; SPE without MSTR. Not: SCCR0 whatever it is; all else of SCCR1; BITS 0, 8 and 15; SPE with MSTR.
pub record Settings : Type 0 where
  pub loops : tried 0 0x4000 0 0 ≡ 3
  pub woms : tried 0 0x2000 0 0 ≡ 3
  pub sbk : tried 0 0x0001 0 0 ≡ 3
  pub womq : tried 0 0 0x4000 0 ≡ 3
  pub bits_1 : tried 0 0 0x0400 0 ≡ 3
  pub bits_7 : tried 0 0 0x1C00 0 ≡ 3
  pub spe_without_mstr : tried 0 0 0x0104 0x8000 ≡ 3
  pub sccr0 : tried 0xFFFF 0 0 0 ≡ 0
  pub sccr1 : tried 0 0x1FFE 0 0 ≡ 0
  pub bits_0 : tried 0 0 0x83FF 0 ≡ 0
  pub bits_8 : tried 0 0 0x2000 0 ≡ 0
  pub bits_15 : tried 0 0 0xBFFF 0 ≡ 0
  pub spcr1 : tried 0 0 0 0x7FFF ≡ 0
  pub spe_with_mstr : tried 0 0 0x8000 0x8000 ≡ 0

pub record Eight : Type 0 where
  pub zero : answer (fresh (replicate 11 0)) (Added (plain 0)) ≡ 8
  pub the_same : answer (roomy 11 (plain_bytes 3)) (Added (plain 3)) ≡ 8
  pub below : answer (roomy 11 (plain_bytes 3)) (Added (plain 2)) ≡ 8
  pub above : answer (roomy 11 (plain_bytes 3)) (Added (plain 4)) ≡ 0
  -- By both bytes of the number.
  pub word_below : answer (roomy 11 sample_bytes) (Added (plain 0x1135)) ≡ 8
  pub word_above : answer (roomy 11 sample_bytes) (Added (plain 0x1301)) ≡ 0
  -- Withdrawn, it is still the last.
  pub withdrawn_last : answer (roomy 11 (plain_bytes 3 ++ withdrawal_bytes 3)) (Added (plain 3)) ≡ 8
  pub never_added : answer (roomy 3 (plain_bytes 3)) (Withdrawn 2) ≡ 8
  pub never_added_0 : answer (roomy 3 (plain_bytes 3)) (Withdrawn 0) ≡ 8
  pub already : answer (roomy 3 (plain_bytes 3 ++ withdrawal_bytes 3)) (Withdrawn 3) ≡ 8
  pub an_older : answer (roomy 3 (plain_bytes 3 ++ plain_bytes 4)) (Withdrawn 3) ≡ 0
  pub none_left : (newest (plain_bytes 3 ++ withdrawal_bytes 3) 14).refusal ≡ 8
  pub nothing_there : (newest [] 0).refusal ≡ 8
  pub older_again : (newest (plain_bytes 3 ++ (plain_bytes 4 ++ withdrawal_bytes 4)) 25).edition.number ≡ 3

-- Editions 1 to n, one behind the other.
abbrev pub editions : ℕ → List ℕ
editions zero = []
editions (suc n) = editions n ++ plain_bytes (suc n)

pub record Seven : Type 0 where
  pub edition_fits : answer (roomy 11 (plain_bytes 3)) (Added (plain 4)) ≡ 0
  pub edition_past_end : answer (roomy 10 (plain_bytes 3)) (Added (plain 4)) ≡ 7
  pub withdrawal_fits : answer (roomy 3 (plain_bytes 3)) (Withdrawn 3) ≡ 0
  pub withdrawal_past_end : answer (roomy 2 (plain_bytes 3)) (Withdrawn 3) ≡ 7
  pub record_64 : answer (roomy 99 (editions 63)) (Added (plain 64)) ≡ 0
  pub record_65 : answer (roomy 99 (editions 64)) (Added (plain 65)) ≡ 7
  pub withdrawal_65 : answer (roomy 99 (editions 64)) (Withdrawn 1) ≡ 7

pub record Five : Type 0 where
  pub kind_20 : refusal (full (0x20 ∷ plain_bytes 1)) ≡ 5
  pub kind_23 : refusal (full (plain_bytes 1 ++ (0x23 ∷ []))) ≡ 5
  pub kind_0 : refusal (full (0 ∷ [])) ≡ 5
  pub unmodelled : refusal (full (slave_bytes 1)) ≡ 5
  pub edition_0 : refusal (full (plain_bytes 0)) ≡ 5
  pub not_above : refusal (full (plain_bytes 3 ++ plain_bytes 3)) ≡ 5
  pub never_added : refusal (full (withdrawal_bytes 3)) ≡ 5
  pub twice : refusal (full (plain_bytes 3 ++ (withdrawal_bytes 3 ++ withdrawal_bytes 3))) ≡ 5
  pub record_65 : refusal (full (editions 65)) ≡ 5
  pub record_64 : refusal (full (editions 64)) ≡ 0

pub record Six : Type 0 where
  pub edition_cut : refusal (record { buffer = plain_bytes 1; used = 10 }) ≡ 6
  pub kind_alone : refusal (record { buffer = plain_bytes 1; used = 1 }) ≡ 6
  pub edition_cut_by_end : refusal (full (plain_bytes 1 ++ (0x21 ∷ 0 ∷ 2 ∷ 0 ∷ 0 ∷ 0 ∷ 0 ∷ 0 ∷ 0 ∷ 0 ∷ []))) ≡ 6
  pub withdrawal_cut : refusal (full (plain_bytes 1 ++ (0x22 ∷ 0 ∷ []))) ≡ 6
  pub past_end : refusal (record { buffer = plain_bytes 1; used = 12 }) ≡ 6
  pub nothing_past_end : refusal (record { buffer = []; used = 1 }) ≡ 6
  pub to_the_end : refusal (record { buffer = plain_bytes 1; used = 11 }) ≡ 0

-- Two hold: 5, 6, 3, 8, 7.
pub record Order : Type 0 where
  -- In one buffer, the first that is met.
  pub five_before_cut : refusal (full (0x23 ∷ (0x22 ∷ []))) ≡ 5
  pub five_and_past_end : refusal (record { buffer = 0x23 ∷ []; used = 2 }) ≡ 5
  pub refused_and_past_end : refusal (record { buffer = slave_bytes 1; used = 12 }) ≡ 5
  pub unknown_and_cut : refusal (record { buffer = 0x23 ∷ 0 ∷ []; used = 1 }) ≡ 5
  pub five_three : answer (full (0x23 ∷ [])) (Added (slave 1)) ≡ 5
  pub five_eight : answer (full (0x23 ∷ [])) (Withdrawn 1) ≡ 5
  pub six_three : answer (full (0x22 ∷ [])) (Added (slave 1)) ≡ 6
  pub six_eight : answer (full (0x22 ∷ [])) (Withdrawn 1) ≡ 6
  pub three_eight : answer (roomy 11 (plain_bytes 3)) (Added (slave 3)) ≡ 3
  pub three_seven : answer (full (plain_bytes 3)) (Added (slave 4)) ≡ 3
  pub eight_seven : answer (full (plain_bytes 3)) (Added (plain 3)) ≡ 8
  pub withdrawal_eight_seven : answer (full (plain_bytes 3)) (Withdrawn 2) ≡ 8

pub record Cases : Type 0 where
  pub bytes : Bytes
  pub settings : Settings
  pub eight : Eight
  pub seven : Seven
  pub five : Five
  pub six : Six
  pub order : Order
