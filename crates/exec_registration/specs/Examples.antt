-- Values for the worked examples: registrations for the thing 5 of worker 3, which gives 7.
use Rattle.std.specs.Prelude.{ℕ, Result, Ok, Err}
use Rattle.exec_base.specs.{OneShot.{sent, closed}, declared.{error.Error.Error, one_shot.OneShotState.{OneShotState, TheVariants.Open}}}
use Rattle.exec_registration.specs.declared.registration.RegistrationState.{RegistrationState}
use Rattle.exec_time.specs.declared.timers.Observation.{Observation}

abbrev pub waiting : RegistrationState ℕ
waiting = RegistrationState.Waiting 3 5

abbrev pub forwarded : RegistrationState ℕ
forwarded = RegistrationState.Forwarded 3 5

abbrev pub refused : RegistrationState ℕ
refused = RegistrationState.Closed

abbrev pub over : RegistrationState ℕ
over = RegistrationState.Done

abbrev pub ended : Observation ℕ
ended = Observation.Ready 7

abbrev pub waits : Observation ℕ
waits = Observation.Pending

abbrev pub wakes_another : Observation ℕ
wakes_another = Observation.Refresh

abbrev pub nothing_sent : OneShotState (Result ℕ Error)
nothing_sent = Open

abbrev pub given : OneShotState (Result ℕ Error)
given = sent nothing_sent (Ok 7)

abbrev pub turned_away : OneShotState (Result ℕ Error)
turned_away = sent nothing_sent (Err Error.Closed)

abbrev pub never_sent : OneShotState (Result ℕ Error)
never_sent = closed nothing_sent
