use Rattle.dma_commands.proofs.printing.ShownTransferFaultText.push.Goals as goal

pub returns-in-EmptyList-clause-ok : goal.returns-in-EmptyList-clause-ok
returns-in-EmptyList-clause-ok c = rw c.in-EmptyList.is c.push.ensures.ok

pub returns-in-TooManySegments-clause-ok : goal.returns-in-TooManySegments-clause-ok
returns-in-TooManySegments-clause-ok c = rw c.in-TooManySegments.is c.push-in-TooManySegments.ensures.ok

pub returns-in-EmptySegment-clause-ok : goal.returns-in-EmptySegment-clause-ok
returns-in-EmptySegment-clause-ok c = rw c.in-EmptySegment.is c.push-in-EmptySegment.ensures.ok

pub returns-in-SegmentWraps-clause-ok : goal.returns-in-SegmentWraps-clause-ok
returns-in-SegmentWraps-clause-ok c = rw c.in-SegmentWraps.is c.push-in-SegmentWraps.ensures.ok

pub returns-in-TotalsDiffer-clause-ok : goal.returns-in-TotalsDiffer-clause-ok
returns-in-TotalsDiffer-clause-ok c = rw c.in-TotalsDiffer.is c.push-in-TotalsDiffer.ensures.ok

pub returns-in-TooLong-clause-ok : goal.returns-in-TooLong-clause-ok
returns-in-TooLong-clause-ok c = rw c.in-TooLong.is c.push-in-TooLong.ensures.ok

pub returns-in-DestinationsMeet-clause-ok : goal.returns-in-DestinationsMeet-clause-ok
returns-in-DestinationsMeet-clause-ok c = rw c.in-DestinationsMeet.is c.push-in-DestinationsMeet.ensures.ok

pub returns-in-SourceMeetsDestination-clause-ok : goal.returns-in-SourceMeetsDestination-clause-ok
returns-in-SourceMeetsDestination-clause-ok c = rw c.in-SourceMeetsDestination.is c.push-in-SourceMeetsDestination.ensures.ok

pub returns-in-BadEvent-clause-ok : goal.returns-in-BadEvent-clause-ok
returns-in-BadEvent-clause-ok c = rw c.in-BadEvent.is c.push-in-BadEvent.ensures.ok
