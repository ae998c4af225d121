mod LwobBodies
