-- What is reached along a relation.

-- "from there on": b is reached from a along E, in no step or more
pub data Reaches {A : Type 0} (E : A → A → Type 0) : A → A → Type 0 where
  here : {a : A} → Reaches E a a
  step : {a b c : A} → E a b → Reaches E b c → Reaches E a c
