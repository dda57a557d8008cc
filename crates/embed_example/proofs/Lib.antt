-- an environment answers calls on behind a call, and behind a sync, which leaves it valid
mod Answering
