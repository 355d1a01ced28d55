-- Demand 1, whole. Assumes nothing.
use Rattle.trace.proofs.Laws.{records_read, known_and_whole, bytes_each, earlier_stand}
use Rattle.claims_refusals.specs.Demand1.{Demand1}
use Rattle.claims_refusals.proofs.Accesses.{refusal1, refusal2, privilege, refusal3, refusal4, unchanged, answers, in_bytes}
use Rattle.claims_refusals.proofs.Limits.{refusal10}
use Rattle.claims_refusals.proofs.Records.{refusal5, refusal6, refusal7, refusal10_of_record, ends, record_by_record, output}

pub demand1 : Demand1
demand1 =
    record {
      refusal1 = refusal1;
      refusal2 = refusal2;
      privilege = privilege;
      refusal3 = refusal3;
      refusal4 = refusal4;
      unchanged = unchanged;
      refusal10 = refusal10;
      answered = answers;
      in_bytes = in_bytes;
      refusal5 = refusal5;
      refusal6 = refusal6;
      refusal7 = refusal7;
      refusal10_of_record = refusal10_of_record;
      ends = ends;
      record_by_record = record_by_record;
      output = output;
      records_read = records_read;
      known_and_whole = known_and_whole;
      earlier_stand = earlier_stand;
      bytes_each = bytes_each;
    }
