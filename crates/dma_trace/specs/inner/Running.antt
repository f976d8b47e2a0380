-- How a run of a trace is kept.
use Rattle.std.specs.Prelude.{◌≡◌, ℕ, ◌<◌, ◌++◌, Bool, List, map}
use Rattle.dma_mem.specs.Regions.{image_of, pieces_of, read_only_of}
use Rattle.dma_mem.specs.{declared.regions.Region.Region, declared.segment.Segment.Segment, Marking.MarkList}
use Rattle.dma_chan.specs.{declared.turn.ChanTurn.TheVariants.Moved, Channel.ChannelValue}
use Rattle.dma_chan.specs.{LentRegions.segment_of, Stepping.Machine, Stepping.after_steps, Stepping.answer_at, Stepping.machine}
use Rattle.dma_trace.specs.Traced.{End, StopsAfter, end_after, if_wave, last_answer, lines, opening, tried, wave_lines, waveform}
use Rattle.dma_trace.specs.{declared.words.Point.Point, Front.point_of, declared.options.TraceOptions.TraceOptions}

-- a channel over regions
abbrev pub machine_over : ChannelValue → List Region → List Bool → Machine
machine_over c regions flags = machine c (image_of (pieces_of regions)) flags

-- after n steps that moved
pub record Goes (o : TraceOptions) (marks : MarkList) (first : List Region) (s : Machine) (n : ℕ) (c : ChannelValue) (regions : List Region) (flags : List Bool)
    (point : Point) (old new : List ℕ) : Type 0 where
  pub at : machine_over c regions flags ≡ after_steps marks s n
  pub moved : (k : ℕ) → k < n → answer_at marks (after_steps marks s k) ≡ Moved
  pub point_is : point ≡ point_of n c
  pub program : c.program ≡ s.channel.program
  pub taken : c.taken ≡ n
  pub places : map segment_of regions ≡ map segment_of first
  pub read_only : read_only_of regions ≡ read_only_of first
  pub text : new ≡ old ++ lines o marks (map segment_of first) s n

-- the waveform after n steps that moved
pub record Waves (o : TraceOptions) (marks : MarkList) (s : Machine) (n : ℕ) (old new : List ℕ) : Type 0 where
  pub text : new ≡ old ++ if_wave o (wave_lines marks s n)

-- a run has ended, and its lines, its waveform and its end are appended
pub record Runs (o : TraceOptions) (marks : MarkList) (places : List Segment) (s : Machine) (good : Bool)
    (after out err wave new_out new_err new_wave : List ℕ) : Type 0 where
  pub count : ℕ
  pub run : StopsAfter marks s o.limit count
  pub succeeds : good ≡ (end_after o marks s count).succeeds
  pub memory : after ≡ (after_steps marks s (tried o.limit count)).image
  pub to_out : new_out ≡ (out ++ lines o marks places s count) ++ (end_after o marks s count).says
  pub to_err : new_err ≡ err ++ (end_after o marks s count).wrong
  pub to_wave : new_wave ≡ wave ++ if_wave o (waveform marks s count (last_answer marks s o.limit count))

-- A run of a program over regions has ended, and its lines, its waveform and its end are appended.
abbrev pub RunsOver : TraceOptions → MarkList → List ℕ → List Region → List Region → Bool → (out err wave new_out new_err new_wave : List ℕ) → Type 0
RunsOver o marks program first left good out err wave new_out new_err new_wave =
    Runs o marks (map segment_of first) (opening o program (image_of (pieces_of first))) good (image_of (pieces_of left)) out err wave new_out new_err
    new_wave

-- the end of a run is printed
pub record Ends (end : End) (good : Bool) (out err new_out new_err : List ℕ) : Type 0 where
  pub succeeds : good ≡ end.succeeds
  pub to_out : new_out ≡ out ++ end.says
  pub to_err : new_err ≡ err ++ end.wrong
