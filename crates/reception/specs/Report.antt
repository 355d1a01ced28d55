-- Document 02, L14: what a module says of its frames.
use Rattle.sci.specs.model.Flags.{RDRF}
use Rattle.sci.specs.model.Status.{has}
use Rattle.qsm.specs.declared.state.Module.{Module}
use Rattle.reception.specs.declared.account.Report.{Report}

-- Its two counts, and whether a word waits: RDRF is set.
abbrev pub report : Module → Report
report m = record { taken = m.sci.account.taken; lost = m.sci.account.lost; waiting = has m.sci.status RDRF }
