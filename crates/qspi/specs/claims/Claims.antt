-- All that is shown of an entry and of a queue.
use Rattle.qspi.specs.claims.Laws.{HoldRuns, PeriodOut, EdgeFormula, EdgesFall, LastEdge, SckTurns, SckRests, PcsShow, PcsDelay, MosiShows, MosiHolds, WordStored, UnusedZero, BitsInOrder, DelayRuns, NextStarts, HaltComes, HaltHolds, HaltReleases, QueueEnds, EntriesRun, QueueWraps, LastOfQueue, NotSooner, FaultAbandons, WriteAbandons}
use Rattle.qspi.specs.claims.Clauses.{Clauses}
use Rattle.qspi.specs.claims.FieldClauses.{FieldClauses}
use Rattle.qspi.specs.claims.FlagLaws.{FlagLaws}
use Rattle.qspi.specs.claims.Marked.{ComesRound, K7, K8, K9, K10}

pub record Claims : Type 0 where
  pub hold_runs : HoldRuns
  pub period_out : PeriodOut
  pub comes_round : ComesRound
  pub edge_formula : EdgeFormula
  pub edges_fall : EdgesFall
  pub last_edge_holds : LastEdge
  pub sck_turns : SckTurns
  pub sck_rests : SckRests
  pub pcs_show : PcsShow
  pub pcs_delay : PcsDelay
  pub mosi_shows : MosiShows
  pub mosi_holds : MosiHolds
  pub word_stored : WordStored
  pub unused_zero : UnusedZero
  pub bits_in_order : BitsInOrder
  pub delay_runs : DelayRuns
  pub next_starts : NextStarts
  pub halt_comes : HaltComes
  pub halt_holds : HaltHolds
  pub halt_releases : HaltReleases
  pub queue_ends : QueueEnds
  pub entries_run : EntriesRun
  pub queue_wraps : QueueWraps
  pub last_of_queue : LastOfQueue
  pub not_sooner : NotSooner
  pub fault_abandons : FaultAbandons
  pub write_abandons : WriteAbandons
  pub clauses : Clauses
  pub fields : FieldClauses
  pub flags : FlagLaws
  pub k7 : K7
  pub k8 : K8
  pub k9 : K9
  pub k10 : K10
