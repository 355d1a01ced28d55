-- What a short hold changes of the entry under way, and the entry with it.
use Rattle.qspi.specs.declared.entry.Entry.{Entry}
use Rattle.qsm.specs.declared.holding.QueueHeld.{QueueHeld}

abbrev pub held_of : Entry → QueueHeld
held_of e =
    record {
      left = e.left;
      edges = e.edges;
      mosi = e.mosi;
      collected = e.collected;
      selecting = e.selecting;
    }

abbrev pub entry_held : Entry → QueueHeld → Entry
entry_held e h =
    record {
      command = e.command;
      word = e.word;
      playing = e.playing;
      delaying = e.delaying;
      halted = e.halted;
      left = h.left;
      edges = h.edges;
      mosi = h.mosi;
      collected = h.collected;
      selecting = h.selecting;
    }
