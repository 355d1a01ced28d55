use mathlib.Core.Path.{refl}
use Rattle.qspi.specs.claims.Clauses.{Clauses}
use Rattle.qspi.specs.claims.FlagLaws.{FlagLaws}
use Rattle.qspi.proofs.Edges.{hold_runs, edge_formula, edges_fall, last_edge_holds}
use Rattle.qspi.proofs.Returning.{period_out}
use Rattle.qspi.proofs.Lines.{sck_turns, sck_rests, pcs_show, pcs_delay, fault_abandons, write_abandons}
use Rattle.qspi.proofs.Mosi.{mosi_shows, mosi_holds}
use Rattle.qspi.proofs.Word.{word_stored, unused_zero, bits_in_order}
use Rattle.qspi.proofs.Delay.{delay_runs, next_starts, halt_comes, halt_holds, halt_releases, queue_ends}
use Rattle.qspi.proofs.Order.{entries_run, queue_wraps, last_of_queue}
use Rattle.qspi.proofs.Sooner.{not_sooner}
use Rattle.qspi.proofs.Buffered.{newqp_moves, upper_alone, clock1_takes, buffered}
use Rattle.qspi.proofs.Pending.{pending_wins}
use Rattle.qspi.proofs.Rising.{spe_rises, no_rise, silent_before}
use Rattle.qspi.proofs.Rises.{modf_only, halta_only, halta_once}
use Rattle.qspi.proofs.Miso.{miso_read, miso_zeros}
use Rattle.qspi.proofs.FieldClauses.{field_clauses}
use Rattle.qspi.proofs.FlagLaws.{flag_shows, flag_falls, falls_only, read_sees, seen_only, seen_lasts, reset_forgets, cptqp_stays}
use Rattle.qspi.proofs.Marked.{comes_round, k7, k8, k9, k10}
use Rattle.qspi.proofs.claims.shown.Goals as goal

clauses : Clauses
clauses =
    record {
      newqp_moves = newqp_moves;
      pending_wins = pending_wins;
      upper_alone = upper_alone;
      clock1_takes = clock1_takes;
      buffered = buffered;
      spe_rises = spe_rises;
      no_rise = no_rise;
      silent_before = silent_before;
      modf_only = modf_only;
      halta_only = halta_only;
      halta_once = halta_once;
      miso_read = miso_read;
      miso_zeros = miso_zeros;
    }

flags : FlagLaws
flags =
    record {
      flag_shows = flag_shows;
      flag_falls = flag_falls;
      falls_only = falls_only;
      read_sees = read_sees;
      seen_only = seen_only;
      seen_lasts = seen_lasts;
      reset_forgets = reset_forgets;
      cptqp_stays = cptqp_stays;
    }

pub returns : goal.returns
returns c = (
  refl,
  record {
    hold_runs = hold_runs;
    period_out = period_out;
    comes_round = comes_round;
    edge_formula = edge_formula;
    edges_fall = edges_fall;
    last_edge_holds = last_edge_holds;
    sck_turns = sck_turns;
    sck_rests = sck_rests;
    pcs_show = pcs_show;
    pcs_delay = pcs_delay;
    mosi_shows = mosi_shows;
    mosi_holds = mosi_holds;
    word_stored = word_stored;
    unused_zero = unused_zero;
    bits_in_order = bits_in_order;
    delay_runs = delay_runs;
    next_starts = next_starts;
    halt_comes = halt_comes;
    halt_holds = halt_holds;
    halt_releases = halt_releases;
    queue_ends = queue_ends;
    entries_run = entries_run;
    queue_wraps = queue_wraps;
    last_of_queue = last_of_queue;
    not_sooner = not_sooner;
    fault_abandons = fault_abandons;
    write_abandons = write_abandons;
    clauses = clauses;
    fields = field_clauses;
    flags = flags;
    k7 = k7;
    k8 = k8;
    k9 = k9;
    k10 = k10;
  },
)
