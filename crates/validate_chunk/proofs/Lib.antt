mod ChunkCounts
