-- The close: where no line is wrong, the rest is packed as a line.
-- Assumes nothing.
use Rattle.std.specs.Prelude.{Ok, Err}
use Rattle.std.proofs.Common.{◌≡◌, ℕ, ◌≤◌, Bool, true, false, List, length, sym, refl, ◌∙◌, true≢false, zero-le}
use Rattle.text.proofs.Laid.{put_none}
use Rattle.packing.specs.declared.Packed.{Packed}
use Rattle.packing.specs.Lines.{Judged, fine, longest_line}
use Rattle.packing.specs.Packing.{wrong_of, lines_after}
use Rattle.packing.specs.Promises.{Packs, Closes}
use Rattle.packing.proofs.Scanning.{fine_is}

module _ (judged : Judged) (wrong : Bool) (tells : wrong ≡ wrong_of judged) where
  pub last_short : (rest : List ℕ) → (wrong_of judged ≡ false → length rest ≤ longest_line) → wrong ≡ false → length rest ≤ longest_line
  last_short rest short e = short (sym tells ∙ e)

  module _ (lines line : ℕ) (is : line ≡ lines_after lines 1) (rest before : List ℕ) where
    pub ends_fine : wrong ≡ false → (after : List ℕ) (r : Packed) → Packs rest before 0 after r → Closes lines judged rest before after (record { to = r.to; line = line; judged = r.judged })
    ends_fine e after r packs =
        let well : judged ≡ fine = fine_is judged (sym tells ∙ e) in
        record { put = rw well packs.put; line_is = rw well is; judged_is = rw well packs.judged_is }

    pub ends_wrong : wrong ≡ true → Closes lines judged rest before before (record { to = 0; line = line; judged = judged })
    ends_wrong e = by judged (sym tells ∙ e)
      where
        by : (j : Judged) → wrong_of j ≡ true → Closes lines j rest before before (record { to = 0; line = line; judged = j })
        by (Ok u) e = absurd (true≢false (sym e))
        by (Err why) e = record { put = put_none zero-le; line_is = is; judged_is = refl }
