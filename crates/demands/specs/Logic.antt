-- What the demands are said with.

-- both, or neither
abbrev pub Iff {ℓ} : Type 0 → Type ℓ → Type ℓ
Iff A B = (A → B) × (B → A)
