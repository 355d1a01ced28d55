use Rattle.tool_assemble.specs.Item.{behind_text}
use Rattle.tool_assemble.proofs.texts.behind_text.Goals as goal

pub returns-in-Ok : goal.returns-in-Ok
unfolding behind_text
returns-in-Ok c = rw (c.sent_of.ensures, ← c.scan.ensures.value, c.in-Ok.is)

pub returns-in-Ok-scan : goal.returns-in-Ok-scan
unfolding behind_text
returns-in-Ok-scan c =
    rw (c.sent_of-in-Ok-scan.ensures, ← c.scan.ensures.value, c.in-Err.is, ← c.scan-in-Err.ensures.value, c.in-Ok-scan.is)

pub returns-in-Err-scan : goal.returns-in-Err-scan
unfolding behind_text
returns-in-Err-scan c =
    rw (c.with_pins.ensures, ← c.scan.ensures.value, c.in-Err.is, ← c.scan-in-Err.ensures.value, c.in-Err-scan.is)
