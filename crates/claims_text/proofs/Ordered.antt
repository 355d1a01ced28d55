-- X112.5 at 9,600 baud on SCBR 55, by the bounds. Assumes nothing.
use mathlib.Core.Path.{◌≡◌, refl, ◌∙◌}
use mathlib.Core.List.{[], ◌∷◌, ◌++◌}
use Prim.Native.Nat.{ℕ, ◌+◌, ◌*◌, ◌≤◌}
use native.Mathlib.Omega.{arith}
use lib.ListN.{length}
use Rattle.qsm.specs.model.Event.{clock_limit}
use Rattle.tool_lines.specs.Gather.{handed}
use Rattle.tool_assemble.specs.Sent.{edge}
use Rattle.claims_assembling.specs.Traces.{clocks_of}
use Rattle.claims_assembling.proofs.Edges.{edges_kept}
use Rattle.claims_text.specs.Text.{Bytes}
use Rattle.claims_text.specs.Lines.{lines_from, text_lines}
use Rattle.claims_text.specs.Through.{Within, cable, order, TextThrough}
use Rattle.claims_text.proofs.Arriving.{all_lines}

seven_bytes : Bytes (order ++ (0x0A ∷ []))
unfolding Bytes
seven_bytes = (omega arith, (omega arith, (omega arith, (omega arith, (omega arith, (omega arith, (omega arith, tt)))))))

seventy_bits : clocks_of cable (10 * length (order ++ (0x0A ∷ []))) ≡ 122334
unfolding edge
seventy_bits = edges_kept cable 70 (omega arith)

in_limit : (n : ℕ) → n ≡ 122334 → 330 + n + 16280 ≤ clock_limit
in_limit n e = omega (arith, e)

order_within : Within cable 55 330 (order ++ (0x0A ∷ [])) 16280 16280
order_within =
    record {
      bytes = seven_bytes;
      pins = omega arith;
      some = omega arith;
      runs = omega arith;
      whole = omega arith;
      slow = omega arith;
      fast = omega arith;
      three = omega arith;
      polled = omega arith;
      close = omega arith;
      once = omega arith;
      fits = (omega arith, omega arith);
      room = in_limit (clocks_of cable (10 * length (order ++ (0x0A ∷ [])))) seventy_bits;
    }

order_lines : text_lines (order ++ (0x0A ∷ [])) ≡ handed 0 order ∷ []
unfolding lines_from
order_lines = refl

pub text_through : TextThrough
text_through =
    record {
      through = λ s scbr before text behind period w. all_lines s scbr before text behind period w;
      met =
          record {
            within = order_within;
            handed = all_lines cable 55 330 (order ++ (0x0A ∷ [])) 16280 16280 order_within ∙ order_lines;
          };
    }
