mod TableKinds
