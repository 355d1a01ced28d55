use Rattle.tool_lines.proofs.turn.reaches.Goals as goal

pub returns-in-Read : goal.returns-in-Read
returns-in-Read c =
    rw (
      c.touches.ensures,
      c.in_map.ensures,
      c.shaped.ensures,
      c.in-Read.is,
    )

pub returns-in-Write : goal.returns-in-Write
returns-in-Write c =
    rw (
      c.touches-in-Write.ensures,
      c.in_map-in-Write.ensures,
      c.fits.ensures,
      c.shaped-in-Write.ensures,
      c.in-Write.is,
    )
