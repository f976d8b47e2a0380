-- What a turn of a device's channel from C changes.
use Rattle.std.proofs.Common.{◌≡◌, ℕ, List, Option, Some, None, refl, sym, ap, subst, inl, inr, arith}
use Rattle.std.specs.Prelude.{ℤ, IsTrue}
use Rattle.dma_mem.specs.{Regions.image_of, Regions.in_order, Regions.pieces_of, declared.regions.Region.Region, declared.segment.Segment.Segment}
use Rattle.dma_chan.specs.{LentRegions.AreKept, Written.KeepsOutside, Written.LiesIn}
use Rattle.dma_device.specs.Device.{DeviceValue}
use Rattle.dma_device.proofs.{RowWrites.rows_write_each, Writes.turn_writes_each}
use Rattle.dma_ffi.specs.Devices.{KeepsOutsideRows, KeepsTheRest, RowsKeepTheRest, TurnsKeepTheRest}
use Rattle.dma_ffi.specs.{declared.device_rows.DeviceRows.DeviceRows, declared.device_calls.DeviceTurn.DeviceTurn, Codes.ok_code}

stay : (regions left : List Region) → left ≡ regions → AreKept left regions
stay regions left same = subst (λ (l : List Region). AreKept l regions) (sym same) (record { places = refl; read_only = refl; names = refl })

-- the call is refused
refused_keeps : (n most : ℕ) (old : Option DeviceValue) (regions : List Region) (before : DeviceTurn) (code : ℤ) (new : Option DeviceValue) (left : List Region)
    (report : DeviceTurn) → ¬ (code ≡ ok_code) → new ≡ old → left ≡ regions → report ≡ before → KeepsTheRest n most old regions before code new left report
refused_keeps n most old regions before code new left report bad device same former = grind (arith, stay)

pub turns_keep_the_rest : TurnsKeepTheRest
turns_keep_the_rest n most None regions before code new left report x =
    refused_keeps n most None regions before code new left report (λ ok. let is = x.0 in cc) x.1 x.2 x.3
turns_keep_the_rest n most (Some d) regions before code new left report (inl x) =
    refused_keeps n most (Some d) regions before code new left report (λ ok. let is = x.0 in cc) x.2 x.3 x.4
turns_keep_the_rest n most (Some d) regions before code None left report (inr x) = absurd x.2
turns_keep_the_rest n most (Some d) regions before code (Some e) left report (inr x) =
    let w = turn_writes_each d regions n most e left x.2.0 x.2.1 in
    let range = ap (λ (r : DeviceTurn). r.written) x.2.2 in
    record {
      kept = λ ok. subst (λ (s : Segment). KeepsOutside s (image_of (pieces_of regions)) (image_of (pieces_of left))) (sym range) w.no_other;
      each = λ a ok i. (d, refl, w.each a (subst (λ (s : Segment). LiesIn s a) range i));
      in_place = record { places = w.places; read_only = w.read_only; names = w.names };
      refused = λ no. absurd (no x.0);
    }

-- ---- several turns

-- the call is refused
rows_refused : (n : ℕ) (old : Option DeviceValue) (regions : List Region) (before : DeviceRows) (code : ℤ) (new : Option DeviceValue) (left : List Region)
    (report : DeviceRows) → ¬ (code ≡ ok_code) → new ≡ old → left ≡ regions → report ≡ before → KeepsOutsideRows n old regions before code new left report
rows_refused n old regions before code new left report bad device same former = grind (arith, stay)

pub rows_keep_the_rest : RowsKeepTheRest
rows_keep_the_rest n most None regions before code new left report x =
    rows_refused n None regions before code new left report (λ ok. let is = x.0 in cc) x.1 x.2 x.3
rows_keep_the_rest n most (Some d) regions before code new left report (inl x) =
    rows_refused n (Some d) regions before code new left report (λ ok. let is = x.0 in cc) x.2 x.3 x.4
rows_keep_the_rest n most (Some d) regions before code None left report (inr x) = absurd x.2
rows_keep_the_rest n most (Some d) regions before code (Some e) left report (inr x) =
    let order : IsTrue (in_order (pieces_of regions)) = grind (arith, x.1) in
    let took = x.2 in
    let w = rows_write_each d regions n e left took.turns took.takes in
    let Kept : DeviceRows → Type 0 = λ r. KeepsOutsideRows n (Some d) regions before code (Some e) left r in
    subst Kept (sym took.reported) (record {
      kept = λ a ok off. w.no_other a off;
      each = λ k a ok less i. (took.takes.before k, (took.takes.lent k, w.each k a less i));
      within = λ k a ok less i. w.within k a order less i;
      in_place = took.takes.kept;
      refused = λ no. absurd (no x.0);
    })
