-- Refinement: the waiting queue as a list, and what is taken out of it.
use Rattle.std.specs.Prelude.{◌≡◌, List, ℕ, ◌+◌, length, take, drop, Option, Some, None, OnSome, IfNone}
use Rattle.charger.specs.First.{Found, nobody, found}
use Rattle.charger.specs.declared.waiting_queue.WaitingQueue.{WaitingQueue}

abbrev pub waiting : WaitingQueue → List ℕ
waiting q = q.ids.items

-- the members of a list from i up to n
abbrev pub part : {A : Type 0} → ℕ → ℕ → List A → List A
part i n l = drop i (take n l)

-- what an answer says: who was taken out, and the queue that is left without it
abbrev pub taken_out : Option ℕ → List ℕ → Found
taken_out (Some v) rest = found v rest
taken_out None rest = nobody

-- the answer is the one that was asked for; a queue that lost a member is shorter by one, and one that lost none is as it was
pub record Taken (f : Found) (queue rest : List ℕ) (r : Option ℕ) : Type 0 where
  pub found : taken_out r rest ≡ f
  pub shorter : OnSome r (length rest + 1 ≡ length queue)
  pub kept : IfNone r (rest ≡ queue)
