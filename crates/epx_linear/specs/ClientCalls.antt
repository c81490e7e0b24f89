-- Calls of clients, and the position of each in an execution order.
use Rattle.std.specs.Prelude.{◌≡◌, ◌≢◌, ◌⊎◌, ℕ, ◌<◌, List, map, Option, Some, AllPairs, find}
use Rattle.std.specs.Prelude.{option_and_then, slice_get}
use Rattle.std.specs.Ordering.{is_eq}
use Rattle.epx_types.specs.declared.id.Id.{Id}
use Rattle.epx_types.specs.Ids.{id_cmp, UpTo}
use Rattle.epx_linear.specs.declared.client_call.ClientCall.{ClientCall}

-- a history has at most one call of an instance
abbrev pub IsHistory : List ClientCall → Type 0
IsHistory h = AllPairs (λ a b. a.id ≢ b.id) h

-- the call of an instance in a history, if the history has one
abbrev pub call_of : List ClientCall → Id → Option ClientCall
call_of h x = find (λ c. is_eq (id_cmp c.id x)) h

-- the call at each position of an order, None if the history has no call of the instance
abbrev pub calls_in : List ClientCall → List Id → List (Option ClientCall)
calls_in h ids = map (call_of h) ids

-- for each of some indices into a history the call there; None for None, and past the end
abbrev pub calls_at : List ClientCall → List (Option ℕ) → List (Option ClientCall)
calls_at h places = map (option_and_then (slice_get h)) places

-- the call at position i is c
abbrev pub HasCall : List (Option ClientCall) → ℕ → ClientCall → Type 0
HasCall calls i c = slice_get calls i ≡ Some (Some c)

-- a had returned before b was invoked
abbrev pub ReturnsBefore : ClientCall → ClientCall → Type 0
ReturnsBefore a b = (t : ℕ) × (a.returned ≡ Some t) × (t < b.invoked)

-- b was invoked later than a, or at the same time and has no greater Id than a
abbrev pub IsInvokedUpTo : ClientCall → ClientCall → Type 0
IsInvokedUpTo a b = (a.invoked < b.invoked) ⊎ ((a.invoked ≡ b.invoked) × UpTo b.id a.id)
