-- A landing that fills a request's window.
use Rattle.std.specs.Prelude.{◌≡◌, ℕ, Bool, List}
use Rattle.exec_request.specs.{declared.request.Request.Request, Requests.{window_by, cursor_of}, Bytes.{lent_of, filled_of, filled_at}, Kept.{kept_of, owned_by}}

-- these bytes were put into the request's window, from its start on, and nothing else of it changed
pub record Fills (old new : Request) (bytes : List ℕ) : Type 0 where
  pub buffer : lent_of new ≡ filled_at (filled_of old) bytes (lent_of old)
  pub place : filled_of new ≡ filled_of old
  pub kept : kept_of new ≡ record (kept_of old) { owned = owned_by new }
  pub cursor : cursor_of new ≡ cursor_of old
  pub window : (h : Bool) → window_by h new ≡ window_by h old
