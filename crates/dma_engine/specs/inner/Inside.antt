-- The parts of an engine and its room, from its fields.
use Rattle.std.specs.Prelude.{◌-◌, map, vec_capacity, vec_len}
use Rattle.dma_engine.specs.{declared.queue.Queue.Queue, View.QueueRoom, View.Room, declared.engine.Engine.TheInside.Inside, inner.Holds.Parts}

-- the parts of an engine
abbrev pub parts_of : Inside → Parts
parts_of e =
    record {
      size = e.size;
      memory = e.memory.image;
      made = e.memory.made;
      events = e.events;
      marks = e.marks;
      queues = e.queues.items;
      base = e.base;
      history = e.history.items;
      steps = e.steps;
    }

-- the room of a queue
abbrev pub queue_room : Queue → QueueRoom
queue_room q = record { indices = q.indices.spare; outcomes = q.outcomes.spare }

-- the room of an engine
abbrev pub room_of : Inside → Room
room_of e = record { entries = vec_capacity e.history - vec_len e.history; queues = map queue_room e.queues.items }
