-- The sessions of scripts: their times are pairs.
use Rattle.std.specs.Prelude.{ℕ, List}
use Rattle.lattice.specs.declared.product.Pair.{Pair}
use Rattle.lattice.specs.Pairs.{make_pair}
use Rattle.plan.specs.declared.node.Node.{Node}
use Rattle.engines.specs.Sessions.{Session, first_session}

-- the session of a script; its times are pairs of a valid time and a system time
abbrev pub BitemporalSession : Type 0
BitemporalSession = Session (Pair ℕ ℕ)

-- the session before the first line; it begins at the least pair
abbrev pub opening_session : List Node → BitemporalSession
opening_session p = first_session (make_pair 0 0) p
