mod SubChunks
