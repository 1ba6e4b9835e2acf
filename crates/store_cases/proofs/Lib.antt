mod KnownPairs
