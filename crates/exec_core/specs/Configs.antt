-- What a configuration says, and what the abstract machine is told of it.
use Rattle.std.specs.Prelude.{ℕ}
use Rattle.exec_core.specs.{Words.Configuration, declared.config.Config.Config}

-- two workers, a ring of 1024 and a tick of 5 ms, 10 s for a connect and 60 s for reads and writes
abbrev pub usual_config : Config
usual_config =
    record {
      worker_threads = 2;
      global_queue_interval = 31;
      ring_config = record { size = 1024; timeout_wheel_tick = 5000000 };
      idle_spinner = record { budget_us = 2; max_budget_us = 10; quick_wake_us = 10 };
      connect_timeout = 10000000000;
      read_write_timeout = 60000000000;
      read_buffer_size = 65536;
    }

abbrev pub configuration_of : Config → ℕ → ℕ → ℕ → Configuration
configuration_of c iterations files sockets =
    record {
      workers = c.worker_threads;
      interval = c.global_queue_interval;
      ring = c.ring_config.size;
      tick = c.ring_config.timeout_wheel_tick;
      connect = c.connect_timeout;
      rw = c.read_write_timeout;
      spin = record { budget = c.idle_spinner.budget_us; most = c.idle_spinner.max_budget_us; quick = c.idle_spinner.quick_wake_us; iterations = iterations };
      files = files;
      sockets = sockets;
    }
